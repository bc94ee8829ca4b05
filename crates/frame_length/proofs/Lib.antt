mod Weights
mod Aims
