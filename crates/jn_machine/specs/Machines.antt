-- What contracts see of a machine: the image that it runs, its bounds, and whether it has not run yet.
use Rattle.std.specs.Prelude.{ℕ, Bool}
use Rattle.jn_code.specs.declared.image.Image.{Image}

pub record MachineState : Type 0 where
  pub image : Image
  pub arena : ℕ
  pub depth : ℕ
  pub fresh : Bool
