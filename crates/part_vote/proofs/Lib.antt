mod Kept
mod LabelsFound
mod Rows
