mod Shortest
mod Standing
mod Worth
mod Written
