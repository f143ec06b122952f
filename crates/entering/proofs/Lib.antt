-- What callers cite.
--     Free      a free voice: first-free, all-audible, none-free; the first inaudible one is given, whatever the policy: free-given
--     Laws      with none waiting, or no voice free, nothing happens: none-waiting, none-enters, no-voice-free; one turn: tried-turn; the line left is valid: valid-line-left; what a play request keeps, the start of a frame keeps: enter-keeps
--     Fates     what becomes of each request: enters, of a state that need not be valid enters-in; a request that went in is at its voice: went-in-stays
--     Youngest  and is the youngest: went-in-youngest
pub mod Free
pub mod Laws
pub mod Fates
pub mod Youngest
