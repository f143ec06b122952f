-- What the program `framelist` prints, from document 01, of a box of the present rules (document 02).
--     Lines     what a line makes of a run and what is answered; a whole list of lines
--     Example   the documents' example of a list
pub mod Lines
pub mod Example
