mod Design
mod Machine
mod Step
mod Word
