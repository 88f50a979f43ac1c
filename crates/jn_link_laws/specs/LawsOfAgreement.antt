-- An image whose codes go with their bodies, each by itself, agrees with its program.
use Rattle.std.specs.Prelude.{◌≡◌, ℕ, List, Option}
use Rattle.jn_base.specs.declared.tree.Program.{Program}
use Rattle.jn_code.specs.declared.image.Image.{Image}
use Rattle.jn_sem.specs.Values.{Value}
use Rattle.jn_sem.specs.State.{Heap, Frame}
use Rattle.jn_sem.specs.Does.{Entry}
use Rattle.jn_agree.specs.Naming.{Naming}
use Rattle.jn_agree.specs.Follows.{Knows, BodyAgrees}
use Rattle.jn_agree.specs.Agrees.{InRange, Agrees, NeverStuck, StartAgrees}

-- a body that is entered with these arguments, in that heap
pub record Entering : Type 0 where
  pub entry : Entry
  pub args : List Value
  pub heap : Heap

-- a body that was entered with that frame gives back this, or nothing
pub record GivingBack : Type 0 where
  pub frame : Frame
  pub heap : Heap
  pub value : Option Value

-- What is known is given by its cases: what may be entered, and what is given back. (Any two relations can be given
-- so.)
abbrev pub knows_by : {R G : Type 0} → (R → Entering) → (G → GivingBack) → Knows
knows_by {R} {G} may back = record {
  ready = λ e args h. (r : R) × (may r ≡ record { entry = e; args = args; heap = h });
  gives = λ f h v. (g : G) × (back g ≡ record { frame = f; heap = h; value = v });
}

-- Whatever is known: what a body may rely on is owed by each code that calls it, and what a body gives back by its
-- own code.
abbrev pub ImagesAgree : Knows → Type 0
ImagesAgree K =
    (p : Program) (i : Image) (n : Naming) → NeverStuck p → ((a d b : ℕ) → InRange a d → BodyAgrees p i n a K b)
    → ((a d : ℕ) → InRange a d → StartAgrees p i n a K) → Agrees i p
