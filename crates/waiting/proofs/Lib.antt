-- What callers cite.
--     Lists    those of a list that pass a test; lists in thirty-two cells
--     Laws     a line and its list: in-line-of, own; what keeps a line valid: left-made, without-made, withdrawn-made; the first taken out: without-first
--     Sorting  sorting afresh, whatever the order: any-order, only-sorted
--     Afresh   the theorem on the next in line: sorted-afresh; the steps it goes by: stands-none, stands-left, stands-without
--     Accounts none is lost: none-lost
--     Steps    a turn of each loop
pub mod Lists
pub mod Laws
pub mod Sorting
pub mod Afresh
pub mod Accounts
pub mod Steps
