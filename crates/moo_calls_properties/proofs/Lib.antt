mod OwnProperty
mod PropertyNames
mod Renamed
