-- The calls of one frame. Assumes nothing.
use Rattle.std.specs.Prelude.{pos, ◌*ℤ◌}
use Rattle.frame.specs.declared.StereoFrame.{StereoFrame}

-- each side "written × 256"
abbrev pub wide_sides : StereoFrame → StereoFrame
wide_sides f = record { mixer = f.mixer; left = f.left *ℤ pos 256; right = f.right *ℤ pos 256 }
