mod Dumped
mod Lent
mod Onto
