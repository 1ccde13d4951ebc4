mod Idle
mod Written
