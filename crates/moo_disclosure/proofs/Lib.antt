mod Fronts
mod Finding
