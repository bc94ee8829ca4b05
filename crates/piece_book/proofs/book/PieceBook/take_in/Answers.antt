use Rattle.std.proofs.Common.{◌≡◌, subst, sym}
use Rattle.piece_book.specs.Books.{knows}
use Rattle.piece_book.specs.Owing.{IsHome}
use Rattle.piece_book.proofs.Homes.{knows_with, kept_known, lent_known, kept_home, lent_out, lent_home, nothing_home}
use Rattle.piece_book.proofs.book.PieceBook.take_in.Goals as goal

pub add-requires-clause-known : goal.add-requires-clause-known
add-requires-clause-known g c = (kept_known _ _ c.requires.2 _ _ c.args.back c.in-Kept.receipt c.in-Kept.is c.requires.3).0

pub add-requires-clause-suits : goal.add-requires-clause-suits
add-requires-clause-suits g c = (kept_known _ _ c.requires.2 _ _ c.args.back c.in-Kept.receipt c.in-Kept.is c.requires.3).1

pub add-requires-in-Lent-clause-known : goal.add-requires-in-Lent-clause-known
add-requires-in-Lent-clause-known g c =
    (lent_known _ _ c.requires.2 _ _ c.args.back c.in-Lent.block c.in-Lent.receipt c.in-Lent.is c.requires.3).0

pub add-requires-in-Lent-clause-suits : goal.add-requires-in-Lent-clause-suits
add-requires-in-Lent-clause-suits g c =
    (lent_known _ _ c.requires.2 _ _ c.args.back c.in-Lent.block c.in-Lent.receipt c.in-Lent.is c.requires.3).1

pub take_back-requires : goal.take_back-requires
take_back-requires g c =
    lent_out c.requires.0 c.requires.1 c.requires.2 _ _ c.args.back c.in-Lent.block c.in-Lent.receipt c.in-Lent.is c.add-in-Lent.ensures.most c.requires.3

pub unreachable-requires : goal.unreachable-requires
unreachable-requires g c = subst (IsHome c.requires.0 c.args.self.now) c.in-Done.is c.requires.3.1

pub unreachable-requires-in-Ran : goal.unreachable-requires-in-Ran
unreachable-requires-in-Ran g c = subst (IsHome c.requires.0 c.args.self.now) c.in-Ran.is c.requires.3.1

pub unreachable-requires-in-Tag : goal.unreachable-requires-in-Tag
unreachable-requires-in-Tag g c = subst (IsHome c.requires.0 c.args.self.now) c.in-Tag.is c.requires.3.1

pub returns-in-Kept-clause-owes : goal.returns-in-Kept-clause-owes
returns-in-Kept-clause-owes g c = λ mint way rest o.
    kept_home mint way rest _ _ _ c.args.back c.in-Kept.receipt c.in-Kept.is c.add.ensures.joined o

pub returns-in-Kept-clause-knows : goal.returns-in-Kept-clause-knows
returns-in-Kept-clause-knows g c = λ n.
    subst (λ book. knows n book ≡ knows n c.args.self.now) (sym c.add.ensures.joined) (knows_with c.in-Kept.receipt c.args.self.now n)

pub returns-in-Lent-clause-owes : goal.returns-in-Lent-clause-owes
returns-in-Lent-clause-owes g c = λ mint way rest o.
    lent_home mint way rest _ _ _ _ c.args.back c.in-Lent.block c.in-Lent.receipt c.in-Lent.is c.add-in-Lent.ensures.joined c.add-in-Lent.ensures.most c.take_back.ensures.returned o

pub returns-in-Lent-clause-knows : goal.returns-in-Lent-clause-knows
returns-in-Lent-clause-knows g c = λ n.
    subst (λ book. knows n book ≡ knows n c.args.self.now) (sym c.add-in-Lent.ensures.joined) (knows_with c.in-Lent.receipt c.args.self.now n)

pub returns-in-Nothing-clause-owes : goal.returns-in-Nothing-clause-owes
returns-in-Nothing-clause-owes g c = λ mint way rest o. nothing_home mint way rest _ _ c.args.back c.in-Nothing.is o
