-- An image whose codes go with their bodies agrees with its program.
use Rattle.std.proofs.Common.{◌≡◌, ◌≢◌, ℕ, zero, suc, ◌+◌, ◌*◌, List, [], ◌∷◌, Option, Some, None, refl, sym, ap, ◌∙◌, subst, arith, slice_get}
use Rattle.std.specs.Prelude.{IsSome}
use Rattle.jn_steps.specs.Runs.{Report, On}
use Rattle.jn_steps.proofs.Machines.{machine_grows}
use Rattle.jn_base.specs.declared.tree.Program.{Program}
use Rattle.jn_code.specs.declared.image.Image.{Image}
use Rattle.jn_code.specs.declared.image.Code.{Code}
use Rattle.jn_code.specs.Machine.{Halt, mach, fresh, boot, instruct, rules, Machine, first_frame}
use Rattle.jn_sem.specs.declared.outcome.Outcome.{Outcome}
use Rattle.jn_sem.specs.declared.outcome.Outcome.TheVariants as outcome
use Rattle.jn_sem.specs.Does.{Ending, Ends, AtNull, Zero, Arena, Depth, Stuck}
use Rattle.jn_sem.specs.Run.{Run, start, start_frame, shown, Charge, outcome_of}
use Rattle.jn_sem.proofs.SureCharges.{charge_keeps}
use Rattle.jn_agree.specs.Naming.{Naming}
use Rattle.jn_agree.specs.Matches.{Matches}
use Rattle.jn_agree.specs.Follows.{Knows, halt_of, BodyAgrees}
use Rattle.jn_lockstep.specs.Together.{RunIs, end_as}
use Rattle.jn_agree.specs.Agrees.{halt_as, InRange, SameEnd, AgreesAt, Agrees, NeverStuck, empty_world, StartAgrees}
use Rattle.jn_lockstep.proofs.Lockstep.{agree}
use Rattle.jn_link_laws.proofs.Link.{link, Both}

nothing_there : {X : Type 0} (o : ℕ) (x : X) → slice_get [] o ≡ Some x → ⊥
nothing_there zero x e = cc
nothing_there (suc o) x e = cc

module _ (p : Program) (i : Image) (n : Naming) (m d : ℕ) (K : Knows) where
  matches_empty : Matches p i n empty_world []
  matches_empty =
      record { blocks = refl; objects = λ o y c e f. absurd (nothing_there o y e); used = refl; small = omega arith }

  booted : (c : Code) → slice_get i.codes i.start ≡ Some c
      → boot i ≡ record { frames = fresh i.start c [] ∷ []; heap = []; output = [] }
  booted c e =
      ap (λ (x : Option Code). let s : Machine = record { frames = first_frame i x; heap = []; output = [] } in s) e

  together : ((b : ℕ) → BodyAgrees p i n m K b) → StartAgrees p i n m K → (b : ℕ)
      → Both p i n m d K b start (boot i) 32
  together all st b =
      subst (λ (s : Machine). Both p i n m d K b start s 32) (sym (booted st.code st.there))
      (link p i n m d K all b start_frame start_frame [] empty_world
      (fresh i.start st.code []) [] [] [] 32 0 32 refl matches_empty (st.follows b) tt (omega arith))

  abbrev Is : ℕ → Report Halt → Type 0
  Is b r = RunIs 32 (Charge p m d) shown (instruct i m d) (λ (s : Machine). s.output) halt_of b (On start) r

  abbrev report_of : Option Halt → List ℕ → Report Halt
  report_of q out = record { outcome = q; output = out }

  -- a run of the meaning that isn't stuck
  run_is : (b : ℕ) (o : Outcome) (out : List ℕ) → (o ≢ outcome.More → (q : Halt) × (halt_as o ≡ Some q))
      → Run p b m d o out → Is b (report_of (halt_as o) out)
  run_is b o out ok r = record { end = r.ending; is = at_end r.ending r.outcome; reports = r.reports }
    where
      as_more : (x : Outcome) → x ≡ outcome.More → halt_as x ≡ None
      as_more x e = ap halt_as e

      ends_as : (e : Ending) → o ≡ outcome_of (Some e) → o ≢ outcome.More
          → end_as 32 (Charge p m d) shown (instruct i m d) (λ (s : Machine). s.output) halt_of (Some e) ≡ Some
          (halt_as o)
      ends_as Ends f more = sym (ap (λ (x : Outcome). Some (halt_as x)) f)
      ends_as AtNull f more = sym (ap (λ (x : Outcome). Some (halt_as x)) f)
      ends_as Zero f more = sym (ap (λ (x : Outcome). Some (halt_as x)) f)
      ends_as Arena f more = sym (ap (λ (x : Outcome). Some (halt_as x)) f)
      ends_as Depth f more = sym (ap (λ (x : Outcome). Some (halt_as x)) f)
      ends_as (Stuck why) f more = absurd (let q = ok more in let e : None ≡ Some q.0 = sym (ap halt_as f) ∙ q.1 in cc)

      not_more : (e : Ending) → outcome_of (Some e) ≢ outcome.More
      not_more Ends f = cc
      not_more AtNull f = cc
      not_more Zero f = cc
      not_more Arena f = cc
      not_more Depth f = cc
      not_more (Stuck why) f = cc

      at_end : (e : Option Ending) → o ≡ outcome_of e
          → end_as 32 (Charge p m d) shown (instruct i m d) (λ (s : Machine). s.output) halt_of e ≡ Some (halt_as o)
      at_end None f = sym (ap (λ (x : Outcome). Some (halt_as x)) f)
      at_end (Some e) f = ends_as e f (λ g. not_more e (sym f ∙ g))

  same_end : (b : ℕ) (o : Outcome) (out : List ℕ) (q : Halt) → halt_as o ≡ Some q
      → mach i m d b ≡ report_of (halt_as o) out → SameEnd i m d b o out
  same_end b o out q e f =
      record {
        halt = q;
        ended = e;
        halted = ap (λ (r : Report Halt). r.outcome) f ∙ e;
        output = ap
            (λ (r : Report Halt). r.output) f;
      }

  some_is : (o : Option Halt) (q : Halt) → o ≡ Some q → IsSome o
  some_is o q e = subst IsSome (sym e) (there q) where
    there : (q : Halt) → IsSome (Some q)
    there q = refl

  agreed : InRange m d → NeverStuck p → ((b : ℕ) → BodyAgrees p i n m K b) → StartAgrees p i n m K → AgreesAt i p m d
  agreed range free all st =
      let both =
      agree 32 (Charge p m d) shown (instruct i m d) (λ (s : Machine). s.output) halt_of (charge_keeps p m d)
      (machine_grows (rules i m) d) start (boot i) (together all st) in
      let ok : (b : ℕ) (o : Outcome) (out : List ℕ) → Run p b m d o out
      → Is b (report_of (halt_as o) out) = λ b o out r. run_is b o out (λ more. free b m d out o range r more) r in
      record {
        wrote = λ k o out r. (both.within k _ (ok (suc k) o out r)).output;
        halted = λ k o out q r e.
            let f = (both.within k _ (ok (suc k) o out r)).ended (some_is (mach i m d k).outcome q e) in
            same_end k o out q (ap (λ (r : Report Halt). r.outcome) f ∙ e) (sym f);
        printed = λ b o out r. (both.reaches b _ (ok b o out r)).output;
        ended = λ b o out r more.
            let q = free b m d out o range r more in
            same_end (32 * b + 32) o out q.0 q.1
            ((both.reaches b _ (ok b o out r)).ended (some_is (halt_as o) q.0 q.1));
      }

pub image_agrees : (K : Knows) (p : Program) (i : Image) (n : Naming) → NeverStuck p
    → ((m d b : ℕ) → InRange m d → BodyAgrees p i n m K b)
    → ((m d : ℕ) → InRange m d → StartAgrees p i n m K) → Agrees i p
image_agrees K p i n free all st a d range = agreed p i n a d K range free (λ b. all a d b range) (st a d range)
