-- An act that leads from one typing to another fits, where what comes behind it fits the other one.
use Rattle.std.proofs.Common.{◌≡◌, List, [], ◌∷◌, refl, sym, subst}
use Rattle.std.specs.Prelude.{false}
use Rattle.jn_steps.specs.Steps.{Goes, Enters, Leaves, Falls, Faults}
use Rattle.jn_base.specs.declared.tree.Method.{Method}
use Rattle.jn_base.specs.declared.tree.Program.{Program}
use Rattle.jn_base.specs.declared.names.Var.{Var}
use Rattle.jn_base.specs.Paths.{Path}
use Rattle.jn_sem.specs.Values.{Value}
use Rattle.jn_sem.specs.Acts.{Todo}
use Rattle.jn_sem.specs.State.{Heap, Frame, has_null_path}
use Rattle.jn_sem.specs.Does.{Entry, Did, Way}
use Rattle.jn_sem.specs.Run.{frame_of}
use Rattle.jn_rules.specs.Stmts.{body_in, at_start}
use Rattle.jn_sound.specs.Fit.{Fits}
use Rattle.jn_sound.specs.Takes.{Typing}
use Rattle.jn_sound.specs.Sound.{body_of, Works, Waits, Stays, GoesFit, EntersFit, DidFit}
use Rattle.jn_sound.proofs.Laws.{Laws}
use Rattle.jn_sound.specs.Steps.{Begun, GoesAt, CallsAt, DidAt}
use Rattle.jn_sound.proofs.Ways.{surely, and_so, Safe}
use Rattle.jn_sound.proofs.Safe.{Sure}
use Rattle.jn_sound.proofs.Frames.{works_stand}
use Rattle.jn_rules.specs.Headers.{Header}

pub stays_itself : (p : Program) (f : Frame) → Stays p f f
stays_itself p f = record { class = refl; method = refl; result = λ x i v h k. k }

body_fits_so : (p : Program) (x : Header) (k : List Todo) (vs : List Var) (t : Typing) (f g : Frame)
    → Stays p f g → Fits p (body_in (body_of f) x) k vs t.scope t.ops → Fits p
    (body_in (body_of g) x) k vs t.scope t.ops
body_fits_so p x k vs t f g a fits =
    subst (λ (Q : Path). Fits p (body_in (record { class = Q; method = g.method }) x) k vs t.scope t.ops) (sym a.class)
    (subst (λ (m : Method). Fits p (body_in (record { class = f.class; method = m }) x) k vs t.scope t.ops)
    (sym a.method) fits)

-- a body that begins works
pub works_begun : {p : Program} {h : Heap} {f : Frame} → Laws p → Begun p h f → Works p h f f.todo
works_begun {p} {h} {f} n b =
    works_stand f.todo b.stands (subst
    (λ (k : List Todo). Fits p (body_in (body_of f) b.header) k b.header.vars
    (at_start (body_of f) b.header).scope []) (sym b.todo)
    (n.body_fits b.view b.name (body_of f) b.header b.class b.is_body b.stands.stands.is_header))

goes_fit : {p : Program} {h : Heap} {f : Frame} {x : Header} {vs : List Var} {k : List Todo} {t : Typing} {g : Frame}
    {i : Heap} → GoesAt p h f x vs k t g i
    → Fits p (body_in (body_of f) x) k vs t.scope t.ops → GoesFit p h f g i
goes_fit {p} {f = f} {x = x} {vs = vs} {k = k} {t = t} {g = g} a fits = record {
  later = a.later;
  heap = a.heap;
  stays = a.stays;
  works =
      works_stand g.todo a.stands (subst (λ (l : List Todo). Fits p (body_in (body_of g) x) l vs t.scope t.ops)
      (sym a.todo) (body_fits_so p x k vs t f g a.stays fits));
}

enters_fit : {p : Program} {h : Heap} {f : Frame} {x : Header} {vs : List Var} {k : List Todo} {t : Typing}
    {e : Entry} {r : Value} {args : List Value} {g : Frame} {i : Heap} → Laws p → CallsAt p h f x vs k t e
    (r ∷ args) g i
    → Fits p (body_in (body_of f) x) k vs t.scope t.ops → EntersFit p h f e r args g i
enters_fit {p} {h} {f} {x} {vs} {k} {t} {e} {r} {args} {g} {i} n a fits = record {
  later = a.later;
  heap = a.heap;
  stays = a.stays;
  are_in = a.are_in;
  works = λ nn ai. and_so (a.ready nn ai) (λ b. surely (works_begun n b, waits nn));
} where
  waits : has_null_path (frame_of e r args).vars ≡ false → Waits p i (frame_of e r args) g
  waits nn = record {
    entry = frame_of e r args;
    stays = stays_itself p (frame_of e r args);
    no_null = nn;
    header = x;
    vars = vs;
    typing = t;
    kept = a.kept;
    resumes = a.resumes;
    fits =
        subst (λ (l : List Todo). Fits p (body_in (body_of g) x) l vs t.scope t.ops) (sym a.todo)
        (body_fits_so p x k vs t f g a.stays fits);
  }

pub did_fits : (p : Program) (h : Heap) (f : Frame) (x : Header) (vs : List Var) (k : List Todo) (t : Typing)
    → Laws p → Fits p (body_in (body_of f) x) k vs t.scope t.ops → (d : Did) → DidAt p h f x vs k t d → DidFit p h f d
did_fits p h f x vs k t n fits (Goes g i bytes) a = goes_fit a fits
did_fits p h f x vs k t n fits (Enters e [] g i) a = absurd (a.receiver)
did_fits p h f x vs k t n fits (Enters e (r ∷ args) g i) a = enters_fit n a fits
did_fits p h f x vs k t n fits (Leaves v i) a = a
did_fits p h f x vs k t n fits Falls a = a
did_fits p h f x vs k t n fits (Faults o) a = a

pub fitted : {p : Program} {h : Heap} {f : Frame} {x : Header} {vs : List Var} {k : List Todo} {t : Typing} {W : Way}
    → Laws p → Fits p (body_in (body_of f) x) k vs t.scope t.ops → Sure (DidAt p h f x vs k t) W → Safe p h f W
fitted {p} {h} {f} {x} {vs} {k} {t} n fits s =
    record { each = λ d w. and_so (s.each d w) (λ a. surely (did_fits p h f x vs k t n fits d a)) }
