mod Changing
mod Found
mod OnCell
