-- What a reader believes of a list of numbers as text, from the replay format.
--     Cells    cells at their width
pub mod Cells
