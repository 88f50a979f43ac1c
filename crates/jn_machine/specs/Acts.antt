-- What the machine's frames are, as its definition has them.
use Rattle.std.specs.Prelude.{◌≡◌}
use Rattle.jn_code.specs.Machine as code
use Rattle.jn_machine.specs.declared.frame.Frame.{Frame}

abbrev pub frame_of : Frame → code.Frame
frame_of f = record { code = f.code; place = f.place; vars = f.vars.words; vals = f.vals.words; keeps = f.keeps }

-- it has room for as many variables and operands as before
pub record SameRoom (f g : Frame) : Type 0 where
  pub wide : g.vars.limit ≡ f.vars.limit
  pub high : g.vals.limit ≡ f.vals.limit
