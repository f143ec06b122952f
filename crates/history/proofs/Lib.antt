-- How it is proved.
--     Kept     frames and starts keep the order of the starts
--     Calls    so does every call, in any order: by-starts; of two voices that are not started the order never changes: same-order
--     Sounding a fade of the second call, from an opening on: after its count of frames the sound goes on: fade-sounds-on
pub mod Kept
pub mod Calls
--     Waits    the line is what sorting afresh would give, and no request is lost: line-kept; with none waiting a frame is as before: as-before; leaving between play requests: plays-alone
pub mod Sounding
pub mod Waits
