mod Endings
mod Completeness
mod Judging
