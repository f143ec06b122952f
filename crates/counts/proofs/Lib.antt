-- What callers cite.
--     Many     how many of a list pass a test: many-append, many-both, many-most, many-all, many-none, many-same
--     Lists    the lists that are tried: k to the power n of them (lists_length), each of n priorities below k (lists-inside), every one (lists-every)
--     Laws     the two counts add up: add-up, counted-adds; no voice refuses all: all-refused; fewer requests than voices, none: none-refused; within what
--              is counted the call gives the counts: counted-within, past it 22: counted-past; tests that agree count the same: counted_same
--     Rows     the row that the code keeps has what trying every list gives: row_counts
--     Examples some counts, computed
pub mod Many
pub mod Lists
pub mod Laws
mod Rows
mod Examples
