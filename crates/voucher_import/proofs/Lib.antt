mod Columns
mod Faults
mod PlacedRows
mod TextRecords
mod RunRows
mod CountKeys
mod OpenSheets
mod OneReading
