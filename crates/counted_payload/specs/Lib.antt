pub mod Accounts
pub mod Parted
pub mod Loans
pub mod CountedLoans
pub mod Numbers
pub mod Calls
