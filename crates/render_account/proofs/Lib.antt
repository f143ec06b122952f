-- What callers cite.
--     Laws    no line of the account is cut: line-within, total-within
pub mod Laws
