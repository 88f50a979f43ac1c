-- What becomes of the frames below one that has ended.
use Rattle.std.proofs.Common.{◌≡◌, ◌<◌, ◌≤◌, ◌+◌, ℕ, List, [], ◌∷◌, ◌++◌, length, map, reverse, Option, Some, None, Bool, true, false, refl, sym, ap, ◌∙◌, subst, arith}
use Rattle.std.specs.Prelude.{cond, not, ◌&&◌, is_some}
use Rattle.std.specs.Option.{option_map}
use Rattle.std.proofs.lemmas.List.{reverse-append}
use Rattle.jn_steps.specs.Runs.{On}
use Rattle.jn_base.specs.declared.tree.TypeTerm.{TypeTerm}
use Rattle.jn_base.specs.declared.path.Path.{Path as ShownPath}
use Rattle.jn_sem.specs.declared.outcome.Why.TheVariants as why
use Rattle.jn_sem.specs.Acts.{Todo}
use Rattle.jn_sem.specs.Values as sem
use Rattle.jn_sem.specs.State as state
use Rattle.jn_sem.specs.Does.{Ends, Stuck}
use Rattle.jn_sem.specs.Run as run
use Rattle.jn_sem.specs.Run.{Then, running, over, ended, settled_at, resumed, given, given_first}
use Rattle.jn_meaning.specs.declared.frame.Frame.{Frame}
use Rattle.jn_meaning.specs.declared.work.Work.{Work}
use Rattle.jn_meaning.specs.declared.did.Ending.{Ending}
use Rattle.jn_meaning.specs.declared.did.Ending.TheVariants as ending
use Rattle.jn_meaning.specs.declared.settling.Settled.{Settled}
use Rattle.jn_meaning.specs.declared.settling.Settled.TheVariants as settled
use Rattle.jn_meaning.specs.declared.value.Value.{Value}
use Rattle.jn_meaning.specs.Values.{value_of}
use Rattle.jn_meaning.specs.Frames.{frame_of, ending_of}
use Rattle.jn_meaning.specs.Work.{todo_in}
use Rattle.jn_meaning.specs.Running.{waiting_of, frames_of, then_of, Resumes, SettlesTop, Settles, settled_then, Leaves}

pub waiting_more : (known : List ShownPath) (fs gs : List Frame) (g : Frame) → fs ≡ gs ++ g ∷ [] → waiting_of known fs ≡ frame_of known g ∷ waiting_of known gs
waiting_more known fs gs g e = ap (waiting_of known) e ∙ ap (map (frame_of known)) (reverse-append gs (g ∷ []))

pub resumed_one : (g : Frame) (fs gs : List Frame) (told : Bool) → Resumes g fs gs told → told ≡ true → fs ≡ gs ++ g ∷ []
resumed_one g fs gs told k e = subst (Resumes g fs gs) e k

pub resumed_none : (g : Frame) (fs gs : List Frame) (told : Bool) → Resumes g fs gs told → told ≡ false → fs ≡ []
resumed_none g fs gs told k e = subst (Resumes g fs gs) e k

pub one_less : (g : Frame) (fs gs : List Frame) → fs ≡ gs ++ g ∷ [] → length fs ≡ length gs + 1
one_less g fs gs e = ap length e ∙ longer gs
  where
    longer : (xs : List Frame) → length (xs ++ g ∷ []) ≡ length xs + 1
    longer [] = refl
    longer (x ∷ xs) = omega (arith, longer xs)

-- ---- the frame at work

pub works : (f : Frame) (fs : List Frame) (w : Work) → (todo_in f.todo ≡ [] → ⊥) → todo_in w ≡ todo_in f.todo → SettlesTop f fs settled.Works (record f { todo = w }) fs
works f fs w n e known H out =
    busy (todo_in f.todo) n (resumed None (waiting_of known fs) out (run.settled (waiting_of known fs) H out))
    ∙ ap (λ (k : List Todo). On (running (record (frame_of known f) { todo = k } ∷ waiting_of known fs) H out)) (sym e)
  where
    busy : (k : List Todo) → (k ≡ [] → ⊥) → (below : Then) → settled_at k (frame_of known f) (waiting_of known fs) H out below ≡ On (running (frames_of known f fs) H out)
    busy [] n below = absurd (n refl)
    busy (t ∷ k) n below = refl

module _ (f : Frame) (fs : List Frame) (done : todo_in f.todo ≡ []) where
  abbrev below : List ShownPath → state.Heap → List ℕ → Then
  below known H out = resumed None (waiting_of known fs) out (run.settled (waiting_of known fs) H out)

  at_end : (known : List ShownPath) (H : state.Heap) (out : List ℕ) → run.settled (frames_of known f fs) H out ≡ ended f.method.now.result out (below known H out)
  at_end known H out = ap (λ (k : List Todo). settled_at k (frame_of known f) (waiting_of known fs) H out (below known H out)) done

  pub lacks_value : (g : Frame) (gs : List Frame) → is_some f.method.now.result ≡ true → SettlesTop f fs (settled.Over (ending.Stuck why.Kind)) g gs
  lacks_value g gs e known H out = at_end known H out ∙ by_result f.method.now.result e
    where
      by_result : (t : Option TypeTerm) → is_some t ≡ true → ended t out (below known H out) ≡ over (Stuck why.Kind) out
      by_result None e = absurd (cc)
      by_result (Some t) e = refl

  module _ (none : is_some f.method.now.result ≡ false) where
    at_none : (known : List ShownPath) (H : state.Heap) (out : List ℕ) → run.settled (frames_of known f fs) H out ≡ below known H out
    at_none known H out = at_end known H out ∙ by_result f.method.now.result none
      where
        by_result : (t : Option TypeTerm) → is_some t ≡ false → ended t out (below known H out) ≡ below known H out
        by_result None e = refl
        by_result (Some t) e = absurd (cc)

    pub last_ends : (g : Frame) (gs : List Frame) → fs ≡ [] → SettlesTop f fs (settled.Over ending.Ends) g gs
    last_ends g gs e known H out =
        at_none known H out ∙ ap (λ (xs : List Frame). resumed None (waiting_of known xs) out (run.settled (waiting_of known xs) H out)) e

    pub awaits : (g : Frame) (gs : List Frame) → fs ≡ gs ++ g ∷ [] → g.keeps ≡ true → SettlesTop f fs (settled.Over (ending.Stuck why.Kind)) g gs
    awaits g gs e k known H out =
        at_none known H out ∙ ap (λ (xs : List state.Frame). resumed None xs out (run.settled xs H out)) (waiting_more known fs gs g e)
        ∙ ap (λ (b : Bool). cond b (over (Stuck why.Kind) out) (run.settled (frames_of known g gs) H out)) k

    pub goes_below : (g : Frame) (gs : List Frame) → fs ≡ gs ++ g ∷ [] → g.keeps ≡ false → SettlesTop f fs settled.Again g gs
    goes_below g gs e k known H out =
        at_none known H out ∙ ap (λ (xs : List state.Frame). resumed None xs out (run.settled xs H out)) (waiting_more known fs gs g e)
        ∙ ap (λ (b : Bool). cond b (over (Stuck why.Kind) out) (run.settled (frames_of known g gs) H out)) k

-- ---- turns

-- after i turns the frames are g and gs
pub record SettledTo (f : Frame) (fs : List Frame) (g : Frame) (gs : List Frame) (i : ℕ) : Type 0 where
  pub same : (known : List ShownPath) (H : state.Heap) (out : List ℕ) → run.settled (frames_of known f fs) H out ≡ run.settled (frames_of known g gs) H out
  pub left : i + length gs ≡ length fs

module _ (f : Frame) (fs : List Frame) where
  pub settled_first : SettledTo f fs f fs 0
  settled_first = record { same = λ known H out. refl; left = omega arith }

  module _ (g : Frame) (gs : List Frame) (i : ℕ) (so : SettledTo f fs g gs i) (x : Frame) (xs : List Frame) (s : Settled) (top : SettlesTop g gs s x xs) where
    at_turn : (known : List ShownPath) (H : state.Heap) (out : List ℕ) → run.settled (frames_of known f fs) H out ≡ settled_then s (frames_of known x xs) H out
    at_turn known H out = so.same known H out ∙ top known H out

    pub settled_works : s ≡ settled.Works → Settles f fs None x xs
    settled_works e known H out = at_turn known H out ∙ ap (λ (z : Settled). settled_then z (frames_of known x xs) H out) e

    pub settled_over : (o : Ending) → s ≡ settled.Over o → Settles f fs (Some o) x xs
    settled_over o e known H out = at_turn known H out ∙ ap (λ (z : Settled). settled_then z (frames_of known x xs) H out) e

    pub settled_more : s ≡ settled.Again → (s ≡ settled.Again → length gs ≡ length xs + 1) → SettledTo f fs x xs (i + 1)
    settled_more e less = record {
      same = λ known H out. at_turn known H out ∙ ap (λ (z : Settled). settled_then z (frames_of known x xs) H out) e;
      left = omega (arith, so.left, less e);
    }

  pub no_turn_left : (g : Frame) (gs : List Frame) (i : ℕ) → SettledTo f fs g gs i → length fs + 1 ≤ i → (o : Option Ending) → Settles f fs o g gs
  no_turn_left g gs i so l o = absurd (omega (arith, so.left, l))

-- ---- results

pub leaves_last : (fs : List Frame) (v : Option Value) (g : Frame) (gs : List Frame) → fs ≡ [] → Leaves fs v (Some ending.Ends) g gs
leaves_last fs v g gs e known H out =
    ap (λ (xs : List Frame). resumed (option_map (value_of known) v) (waiting_of known xs) out (run.settled (given_first (option_map (value_of known) v) (waiting_of known xs)) H out)) e
    ∙ by_value v
  where
    by_value : (v : Option Value) → resumed (option_map (value_of known) v) [] out (over Ends out) ≡ over Ends out
    by_value None = refl
    by_value (Some v) = refl

module _ (fs : List Frame) (v : Option Value) (r : Frame) (gs : List Frame) (one : fs ≡ gs ++ r ∷ []) where
  abbrev back : List ShownPath → state.Heap → List ℕ → List state.Frame → Then
  back known H out xs = resumed (option_map (value_of known) v) xs out (run.settled (given_first (option_map (value_of known) v) xs) H out)

  pub leaves_lacking : not (is_some v) && r.keeps ≡ true → (g : Frame) (hs : List Frame) → Leaves fs v (Some (ending.Stuck why.Kind)) g hs
  leaves_lacking e g hs known H out = ap (back known H out) (waiting_more known fs gs r one) ∙ by_value v e
    where
      by_value : (v : Option Value) → not (is_some v) && r.keeps ≡ true
          → resumed (option_map (value_of known) v) (frames_of known r gs) out (run.settled (given_first (option_map (value_of known) v) (frames_of known r gs)) H out) ≡ over (Stuck why.Kind) out
      by_value None e = ap (λ (b : Bool). cond b (over (Stuck why.Kind) out) (run.settled (frames_of known r gs) H out)) e
      by_value (Some v) e = absurd (cc)

  pub leaves_back : not (is_some v) && r.keeps ≡ false → (x : Frame) → ((known : List ShownPath) → frame_of known x ≡ given (option_map (value_of known) v) (frame_of known r))
      → (o : Option Ending) (g : Frame) (hs : List Frame) → Settles x gs o g hs → Leaves fs v o g hs
  leaves_back e x is o g hs k known H out =
      ap (back known H out) (waiting_more known fs gs r one) ∙ by_value v e
      ∙ ap (λ (y : state.Frame). run.settled (y ∷ waiting_of known gs) H out) (sym (is known)) ∙ k known H out
    where
      by_value : (v : Option Value) → not (is_some v) && r.keeps ≡ false
          → resumed (option_map (value_of known) v) (frames_of known r gs) out (run.settled (given_first (option_map (value_of known) v) (frames_of known r gs)) H out)
          ≡ run.settled (given (option_map (value_of known) v) (frame_of known r) ∷ waiting_of known gs) H out
      by_value None e = ap (λ (b : Bool). cond b (over (Stuck why.Kind) out) (run.settled (frames_of known r gs) H out)) e
      by_value (Some v) e = refl
