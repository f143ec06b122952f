-- Laws of the layout, for the proofs here and of callers.
--     Bytes    numbers and cells as bytes, as the library gives them (low-two, low-four) and as the loop writes them; how long they are:
--              length-little, length-cells
--     Numbers  the header as its numbers, laid one after another
--     Files    what a reader finds in a file: number-back, cells-back, reads; where a header is given: fits-some, fits-none
pub mod Bytes
pub mod Files
mod Numbers
