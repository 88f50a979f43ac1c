-- A valid image never gets stuck: its frames keep their operands of the kinds that are known.
use Rattle.std.proofs.Common.{◌≡◌, ◌≢◌, refl, sym, ℕ, zero, suc, ◌<◌, List, [], ◌∷◌, ◌++◌, length, map, replicate, ℤ, pos, Bool, true, false, not, Option, Some, None, slice_get, nat_lt, arith, subst}
use Rattle.std.specs.Prelude.{is_some, nat_eq, if◌then◌else◌}
use Rattle.std.specs.Option.{option_map}
use Rattle.std.proofs.lemmas.Bool.{eqb-true}
use Rattle.std.proofs.lemmas.List.{map-append}
use Rattle.jn_steps.specs.Runs.{Next, On, End, and_then, after, report}
use Rattle.jn_steps.specs.Steps.{Goes, Enters, Leaves, Falls, Faults}
use Rattle.jn_steps.specs.Frames.{return_to, begin, machine_does, machine_step_of}
use Rattle.jn_code.specs.declared.kind.OperandKind.{OperandKind}
use Rattle.jn_code.specs.declared.instr.Instr.{Instr}
use Rattle.jn_code.specs.declared.image.Image.{Image}
use Rattle.jn_code.specs.declared.image.Code.{Code}
use Rattle.jn_code.specs.Kinds.{kind_of, result_kind, locals_of}
use Rattle.jn_code.specs.Valid.{IsValid, starts_well}
use Rattle.jn_code.specs.Known.{KnownAt, notes_of, IsSound}
use Rattle.jn_code.specs.Going.{StaysGoing, Cell, IsWord, Pairs, AreWords, HeapOk, Placed, expected, WaitsFor, code_result, result_at, Waiting, GoingOn}
use Rattle.jn_code.specs.Machine.{Halt, Stuck, Frame, Did, move, given_if, given, fresh, rules, Machine, instruct, first_frame, boot}
use Rattle.jn_code.specs.Never.{NeverStuck}
use Rattle.jn_code.proofs.Sound.{both_left, get_below, get_there, sound}
use Rattle.jn_code.proofs.Words.{pairs_both, zero_words}
use Rattle.jn_code.proofs.Frames.{HandsBack, DoesOk, Ready, push, some_there, waiting_later}
use Rattle.jn_code.proofs.Obeyed.{obeyed}

known_once : {s : List (Option (List OperandKind))} {t : ℕ} {js ks : List OperandKind} → KnownAt s t js → KnownAt s t ks → js ≡ ks
known_once j k = let a = j.is in let b = k.is in cc

-- the instruction that comes next
pub ready : (i : Image) (p : List Cell) (f : Frame) → IsSound i → (w : Placed i p f []) → (x : Instr) × Ready i p f w.code x w.ks
ready i p f ok w =
    let n = ok.codes f.code w.code w.is in
    let b = get_below (notes_of i w.code) f.place (Some w.ks) w.known.is in
    let l = n.long in
    let x = get_there w.code.instrs f.place (omega arith) in
    let r = n.right f.place x.0 x.1 in
    let q : r.ks ≡ w.ks = known_once r.known w.known in (
      x.0,
      subst (λ (ks : List OperandKind). Ready i p f w.code x.0 ks) q (record {
        is = w.is;
        at = x.1;
        own = r.own;
        target = r.target;
        next = r.next;
        vars = w.vars;
        vals = subst (λ (ks : List OperandKind). AreWords i p ks f.vals) (sym q) w.vals;
      }),
    )

pub moved : (i : Image) (m : ℕ) (p : List Cell) (f : Frame) (h : List ℤ) → IsSound i → HeapOk i m p h → Placed i p f [] → DoesOk i m p f.code (move i m f h)
moved i m p f h ok hp w =
    let r = ready i p f ok w in
    let Ok : Did → Type 0 = DoesOk i m p f.code in
    some_there i p Ok Stuck (slice_get i.codes f.code) w.code _ w.is (some_there i p Ok Stuck (slice_get w.code.instrs f.place) r.0 _ r.1.at (obeyed i m ok.rows p f w.code w.ks h hp r.0 r.1))

-- a step leads on, or ends the run with a halt
abbrev pub NextOk : Image → ℕ → Next Machine Halt → Type 0
NextOk i m (On s) = GoingOn i m s.frames s.heap
NextOk i m (End o out) = o ≢ Stuck

pub begun : (i : Image) (p : List Cell) (b : ℕ) (c : Code) (args : List ℤ) → IsSound i → slice_get i.codes b ≡ Some c → AreWords i p (map kind_of c.params) args → Placed i p (fresh b c args) []
begun i p b c args ok e w =
    let joined : map kind_of c.params ++ map kind_of c.locals ≡ locals_of c = sym (map-append kind_of c.params c.locals) in
    let are : Pairs (IsWord i p) (map kind_of c.params ++ map kind_of c.locals) (args ++ replicate (length c.locals) (pos 0)) =
    pairs_both (IsWord i p) (map kind_of c.params) (map kind_of c.locals) args _ w.are (zero_words i p c.locals) in
    record {
      code = c;
      is = e;
      ks = [];
      known = (ok.codes b c e).first;
      vars = record { are = subst (λ (ks : List OperandKind). Pairs (IsWord i p) ks (args ++ replicate (length c.locals) (pos 0))) joined are };
      vals = record { are = tt };
    }

-- a result comes to a frame that waits for it, or is dropped
kept : (i : Image) (p : List Cell) (f : Frame) (k : OperandKind) (z : ℤ) (keeps : Bool) → IsWord i p k z → Placed i p f (expected keeps (Some k)) → Placed i p (given_if keeps z f) []
kept i p f k z true h w =
    record { code = w.code; is = w.is; ks = k ∷ w.ks; known = w.known; vars = w.vars; vals = push i p k w.ks z f.vals h w.vals }
kept i p f k z false h w = record { code = w.code; is = w.is; ks = w.ks; known = w.known; vars = w.vars; vals = w.vals }

nothing : (i : Image) (p : List Cell) (f : Frame) (keeps : Bool) → Placed i p f (expected keeps None) → Placed i p f []
nothing i p f true w = w
nothing i p f false w = w

pub handed : (i : Image) (p : List Cell) (r : Option OperandKind) (v : Option ℤ) (f : Frame) → HandsBack i p r v → WaitsFor i p f r → Placed i p (given v f) []
handed i p None None f h w = nothing i p f f.keeps w
handed i p None (Some z) f h w = absurd h
handed i p (Some k) None f h w = absurd h
handed i p (Some k) (Some z) f h w = kept i p f k z f.keeps h w

given_code : (v : Option ℤ) (f : Frame) → (given v f).code ≡ f.code
given_code None f = refl
given_code (Some z) f = at f.keeps
  where
    at : (b : Bool) → (given_if b z f).code ≡ f.code
    at true = refl
    at false = refl

same_code : (i : Image) (p : List Cell) (a b : ℕ) (fs : List Frame) → a ≡ b → Waiting i p (result_at i a) fs → Waiting i p (result_at i b) fs
same_code i p a b fs e w = subst (λ (b : ℕ). Waiting i p (result_at i b) fs) e w

returned : (i : Image) (m : ℕ) (p : List Cell) (r : Option OperandKind) (v : Option ℤ) (fs : List Frame) (h : List ℤ) (out : List ℕ) → HandsBack i p r v → HeapOk i m p h → Waiting i p r fs → NextOk i m (return_to (rules i m) v fs h out)
returned i m p r v [] h out b hp w = λ e. cc
returned i m p r v (f ∷ fs) h out b hp w =
    record { plan = p; heap = hp; active = handed i p r v f b w.0; waiting = same_code i p f.code (given v f).code fs (sym (given_code v f)) w.1 }

entered : (i : Image) (m : ℕ) (p : List Cell) (b : ℕ) (c : Code) (args : List ℤ) (o : Option Code) (f : Frame) (fs : List Frame) (h : List ℤ) (out : List ℕ) → IsSound i → slice_get i.codes b ≡ o → o ≡ Some c → AreWords i p (map kind_of c.params) args → WaitsFor i p f (result_kind c.result) → HeapOk i m p h → Waiting i p (result_at i f.code) fs → NextOk i m (begin (rules i m) (option_map (λ (c : Code). fresh b c args) o) (f ∷ fs) h out)
entered i m p b c args None f fs h out ok q e w u hp ws = absurd cc
entered i m p b c args (Some d) f fs h out ok q e w u hp ws =
    let z : c ≡ d = cc in
    let w' : AreWords i p (map kind_of d.params) args = subst (λ (c : Code). AreWords i p (map kind_of c.params) args) z w in
    let u' : WaitsFor i p f (result_kind d.result) = subst (λ (c : Code). WaitsFor i p f (result_kind c.result)) z u in
    let s : Waiting i p (result_at i b) (f ∷ fs) = subst (λ (o : Option Code). Waiting i p (code_result o) (f ∷ fs)) (sym q) (u', ws) in
    record { plan = p; heap = hp; active = begun i p b d args ok q w'; waiting = s }

if_next : (i : Image) (m : ℕ) (b : Bool) (s t : Next Machine Halt) → NextOk i m s → NextOk i m t → NextOk i m (if b then s else t)
if_next i m true s t h k = h
if_next i m false s t h k = k

done_ok : (i : Image) (m d : ℕ) (p : List Cell) (b : ℕ) (s : Did) (fs : List Frame) (out : List ℕ) → IsSound i → DoesOk i m p b s → Waiting i p (result_at i b) fs → NextOk i m (machine_does (rules i m) d s fs out)
done_ok i m d p b (Goes f h bytes) fs out ok w ws =
    record { plan = w.0; heap = w.2; active = w.3; waiting = same_code i w.0 b f.code fs (sym w.4) (waiting_later i p w.0 (result_at i b) fs w.1 ws) }
done_ok i m d p b (Enters g args f h) fs out ok w ws =
    if_next i m (nat_lt (length fs) d) _ _ (entered i m p g w.0 args (slice_get i.codes g) f fs h out ok refl w.1 w.2 w.3 w.4 (same_code i p b f.code fs (sym w.5) ws)) (λ e. cc)
done_ok i m d p b (Leaves v h) fs out ok w ws = returned i m p (result_at i b) v fs h out w.0 w.1 ws
done_ok i m d p b Falls fs out ok w ws = absurd w
done_ok i m d p b (Faults o) fs out ok w ws = w

step_ok : (i : Image) (m d : ℕ) (fs : List Frame) (h : List ℤ) (out : List ℕ) → IsSound i → GoingOn i m fs h → NextOk i m (machine_step_of (rules i m) d fs h out)
step_ok i m d [] h out ok g = absurd g
step_ok i m d (f ∷ fs) h out ok g =
    done_ok i m d g.plan f.code (move i m f h) fs out ok (moved i m g.plan f h ok g.heap g.active) g.waiting

pub stepped : (i : Image) (m d : ℕ) (s : Machine) → IsSound i → GoingOn i m s.frames s.heap → NextOk i m (instruct i m d s)
stepped i m d s ok g = step_ok i m d s.frames s.heap s.output ok g

on_ok : (i : Image) (m : ℕ) (n : Next Machine Halt) (go : Machine → Next Machine Halt) → NextOk i m n → ((s : Machine) → GoingOn i m s.frames s.heap → NextOk i m (go s)) → NextOk i m (and_then n go)
on_ok i m (On s) go h k = k s h
on_ok i m (End o out) go h k = h

pub ran : (i : Image) (m d n : ℕ) (s : Machine) → IsSound i → GoingOn i m s.frames s.heap → NextOk i m (after (instruct i m d) n s)
ran i m d zero s ok g = g
ran i m d (suc n) s ok g = on_ok i m (instruct i m d s) (after (instruct i m d) n) (stepped i m d s ok g) (λ s g. ran i m d n s ok g)

no_params : (i : Image) (p : List Cell) (bs : List ℕ) → nat_eq (length bs) 0 ≡ true → AreWords i p (map kind_of bs) []
no_params i p [] e = record { are = tt }
no_params i p (b ∷ bs) e = absurd (let q : suc (length bs) ≡ 0 = eqb-true (suc (length bs)) 0 e in omega arith)

boot_ok : (i : Image) (m : ℕ) (o : Option Code) → m < 4294967296 → IsSound i → slice_get i.codes i.start ≡ o → starts_well o ≡ true → GoingOn i m (first_frame i o) []
boot_ok i m None le ok q e = cc
boot_ok i m (Some c) le ok q e =
    let w = no_params i [] c.params (both_left (nat_eq (length c.params) 0) (not (is_some (result_kind c.result))) e) in
    record {
      plan = [];
      heap = record { cells = tt; plan = λ c g group a b j k d. absurd cc; small = omega arith; bound = le };
      active = begun i [] i.start c [] ok q w;
      waiting = tt;
    }

pub booted : (i : Image) (m : ℕ) → m < 4294967296 → IsSound i → GoingOn i m (boot i).frames (boot i).heap
booted i m le ok = boot_ok i m (slice_get i.codes i.start) le ok refl ok.start

reported : (i : Image) (m : ℕ) (n : Next Machine Halt) → NextOk i m n → (report (λ (s : Machine). s.output) n).outcome ≢ Some Stuck
reported i m (On s) h = λ e. cc
reported i m (End o out) h = λ e. h cc

pub never_stuck : (i : Image) → IsValid i → NeverStuck i
never_stuck i v m d n le =
    reported i m (after (instruct i m d) n (boot i)) (ran i m d n (boot i) (sound i v) (booted i m le (sound i v)))

pub stays_going : (i : Image) → IsValid i → StaysGoing i
stays_going i v m d n s le e =
    let all : NextOk i m (after (instruct i m d) n (boot i)) = ran i m d n (boot i) (sound i v) (booted i m le (sound i v)) in
    subst (NextOk i m) e all
