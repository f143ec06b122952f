-- How long a fade takes, once for every box: document 01's calls in any order.
--     Steps      the frames and calls, and what each makes of a mixer's state: Frame, Call, called_mixer, goes_on_from; a box that has them:
--                Stepper; what document 02 promises of a fade in it: FadeTakes; what that follows from: ByRule
pub mod Steps
