mod Known
mod Steps
