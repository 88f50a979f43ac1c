-- How the heads of a declaration are added, one by one.
use Rattle.std.specs.Prelude.{◌≡◌, List, ◌++◌}
use Rattle.jn_reach.specs.Each.{Each}
use Rattle.jn_base.specs.declared.tree.Method.{Method}
use Rattle.jn_base.specs.declared.tree.Program.{Program}
use Rattle.jn_base.specs.Paths.{Path}
use Rattle.jn_header.specs.declared.bodies.BodyHead.{BodyHead}
use Rattle.jn_header.specs.Bodies.{HeadAt}

-- behind the heads that were there stand those of these methods
pub record AddsHeads (p : Program) (R : Path) (ms : List Method) (before after : List BodyHead) : Type 0 where
  pub heads : List BodyHead
  pub is : after ≡ before ++ heads
  pub each : Each (HeadAt p R) ms heads
