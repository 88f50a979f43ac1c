-- What soundness knows of a frame at a place of a body, as the agreement of codes with bodies asks for it.
use Rattle.std.specs.Prelude.{List}
use Rattle.jn_base.specs.declared.tree.Program.{Program}
use Rattle.jn_base.specs.declared.names.Var.{Var}
use Rattle.jn_sem.specs.State.{Heap, Frame}
use Rattle.jn_sem.specs.Terms.{Site}
use Rattle.jn_laws.specs.Surely.{Surely}
use Rattle.jn_rules.specs.Headers.{Header}
use Rattle.jn_rules.specs.Stmts.{In, body_in}
use Rattle.jn_sound.specs.Takes.{Typing, site_of_body}
use Rattle.jn_sound.specs.Sound.{body_of, GivesBack}
use Rattle.jn_sound.specs.Steps.{Ready, Standing}
use Rattle.jn_agree.specs.Follows.{Knows}

-- The context of a place: the variables in scope, and the typing (the scope with present masks and fresh paths, and the
-- latest operands that something is known of).
pub record Context : Type 0 where
  pub vars : List Var
  pub typing : Typing

abbrev pub context : List Var → Typing → Context
context vs t = record { vars = vs; typing = t }

-- A frame of the body that was entered with the frame r, and whose header is hd, surely stands in the context.
abbrev pub Stood : Program → (r : Frame) → (hd : Header) → Context → Frame → Heap → Type 0
Stood p r hd c f h = Surely (Standing p r hd c.vars c.typing f h)

-- What a body may rely on where it is entered: if no path is null and each argument is in its type, it surely begins
-- as soundness says. What it gives back is surely in the type of its result.
abbrev pub known : Program → Knows
known p = record { ready = Ready p; gives = λ f h v. Surely (GivesBack p f h v) }

-- the body that was entered with the frame r, and where its terms stand with these variables in scope
abbrev pub in_body : (r : Frame) → (hd : Header) → In
in_body r hd = body_in (body_of r) hd

abbrev pub site_at : (r : Frame) → (hd : Header) → List Var → Site
site_at r hd vs = site_of_body (in_body r hd) vs

-- Example: behind `a` in `a.f`, where a is a final parameter of class type with the number 1, the context has the
-- header's parameters, the scope with `this` and them, and one operand of the type of the path 1.
