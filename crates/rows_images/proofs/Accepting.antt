-- What an accepted program's image is made of.
use Rattle.std.proofs.Common.{◌≡◌, ℕ, List, sym, subst, Result, Ok, Err, IfOk}
use Rattle.std.specs.declared.alloc.AllocError.{AllocError}
use Rattle.jn_base.specs.declared.names.Resolved.{Resolved}
use Rattle.jn_base.specs.declared.tree.Program.{Program}
use Rattle.jn_check.specs.declared.world.World.{World}
use Rattle.jn_check.specs.Worlds.{IsWorld}
use Rattle.jn_code.specs.declared.image.Image.{Image}
use Rattle.jn_link.specs.Joined.{IsImageOf}
use Rattle.jn_link.specs.Whole.{ImageAsked}
use Rattle.rows_images.specs.Accepted.{IsAccepted}

asked : (p : Program) (w : World) (bodies : List Resolved) → bodies ≡ w.bodies.items → (a : IsAccepted p) → IsWorld p w
    → ImageAsked p a.bytes w.table w.members w.groups w.slots bodies
asked p w bodies is a world =
    subst (λ (all : List Resolved). ImageAsked p a.bytes w.table w.members w.groups w.slots all) (sym is)
    (record {
      text = a.text;
      passes = a.passes;
      parts = record { filled = world.filled; members = world.members; groups = world.groups; slots = world.slots };
      resolved = world.bodies;
    })

-- the image of a world is that of the program
pub image_told : (p : Program) (w : World) (bodies : List Resolved) (r : Result Image AllocError) → bodies ≡ w.bodies.items
    → IsAccepted p → IsWorld p w
    → IfOk r (λ i. (bytes : List ℕ) → ImageAsked p bytes w.table w.members w.groups w.slots bodies → IsImageOf p i)
    → IfOk r (λ i. IsImageOf p i)
image_told p w bodies (Ok i) is a world by = by a.bytes (asked p w bodies is a world)
image_told p w bodies (Err e) is a world by = tt
