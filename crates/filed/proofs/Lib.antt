mod Judging
mod Words
