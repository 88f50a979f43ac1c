-- Runs with the kinds of a valid image.
use Rattle.std.proofs.Common.{◌≡◌, ◌≢◌, refl, sym, ap, ◌∙◌, ℕ, zero, suc, ◌<◌, List, [], ◌∷◌, ◌++◌, length, map, replicate, ℤ, pos, Bool, true, false, not, Option, Some, None, slice_get, nat_lt, All, arith, subst}
use Rattle.std.specs.Prelude.{is_some, nat_eq, if◌then◌else◌}
use Rattle.std.specs.Option.{option_map}
use Rattle.std.proofs.lemmas.Bool.{eqb-true}
use Rattle.std.proofs.lemmas.List.{map-append, length-map}
use Rattle.std.proofs.lemmas.Option.{slice_get_within, get_or_from_slice_get}
use Rattle.jn_steps.specs.Runs.{Next, On, End, and_then, after}
use Rattle.jn_steps.specs.Steps.{Goes, Enters, Leaves, Falls, Faults}
use Rattle.jn_steps.specs.Frames.{return_to, begin, machine_does, machine_step_of}
use Rattle.jn_code.specs.declared.kind.OperandKind.{OperandKind}
use Rattle.jn_code.specs.declared.instr.Instr.{Instr}
use Rattle.jn_code.specs.declared.image.Image.{Image}
use Rattle.jn_code.specs.declared.image.Code.{Code}
use Rattle.jn_code.specs.Kinds.{kind_of, result_kind, locals_of}
use Rattle.jn_code.specs.Form.{InForm, CodeInForm, InstrInForm}
use Rattle.jn_code.specs.Valid.{IsValid, starts_well}
use Rattle.jn_code.specs.Known.{KnownAt, notes_of, IsSound}
use Rattle.jn_code.specs.Going.{Cell, expected, code_result, result_at}
use Rattle.jn_code.specs.Machine as plain
use Rattle.jn_code.specs.Machine.{Halt, Stuck, Did}
use Rattle.jn_code.proofs.Sound.{both_left, get_below, get_there, sound}
use Rattle.jn_kinds.specs.Values.{Value, word, words, held_word, zero_of}
use Rattle.jn_kinds.specs.Careful.{Careful, Heap, Act, CarefulMachine, move, given_if, given, fresh, rules, instruct, first_frame, boot}
use Rattle.jn_kinds.specs.Kept.{plain_frame, plain_state, plain_next, IsNotStuck, KindsAreKept}
use Rattle.jn_kinds.proofs.Fit.{IsVal, AreVals, HeapFits, Pairs, pairs_both, vals_later, zero_vals, zero_words}
use Rattle.jn_kinds.proofs.Both.{Placed, WaitsFor, HandsBack, Waiting, DoesFit, plain_act, Both, Ready, push, some_there}
use Rattle.jn_kinds.proofs.Acts.{obeyed}
use Rattle.jn_code.proofs.Words.{Later}

all_get : {X : Type 0} (P : X → Type 0) (xs : List X) (n : ℕ) (x : X) → All P xs → slice_get xs n ≡ Some x → P x
all_get P xs n x all e =
    subst P (get_or_from_slice_get xs n x x e) (all n x (slice_get_within xs n x e))

-- an instruction of an image in form is in form
in_form : (i : Image) (k n : ℕ) (c : Code) (x : Instr) → InForm i → slice_get i.codes k ≡ Some c → slice_get c.instrs n ≡ Some x → InstrInForm x
in_form i k n c x ok e q =
    let code : CodeInForm c = all_get CodeInForm i.codes k c ok.codes e in all_get InstrInForm c.instrs n x code.instrs q

known_once : {s : List (Option (List OperandKind))} {t : ℕ} {js ks : List OperandKind} → KnownAt s t js → KnownAt s t ks → js ≡ ks
known_once j k = let a = j.is in let b = k.is in cc

-- the instruction that comes next
ready : (i : Image) (p : List Cell) (f : Careful) → IsSound i → (w : Placed i p f []) → (x : Instr) × Ready i p f w.code x w.ks
ready i p f ok w =
    let n = ok.codes f.code w.code w.is in
    let b = get_below (notes_of i w.code) f.place (Some w.ks) w.known.is in
    let l = n.long in
    let x = get_there w.code.instrs f.place (omega arith) in
    let r = n.right f.place x.0 x.1 in
    let q : r.ks ≡ w.ks = known_once r.known w.known in (
      x.0,
      subst (λ (ks : List OperandKind). Ready i p f w.code x.0 ks) q (record {
        is = w.is;
        at = x.1;
        own = r.own;
        target = r.target;
        next = r.next;
        vars = w.vars;
        vals = subst (λ (ks : List OperandKind). AreVals i p ks f.vals) (sym q) w.vals;
      }),
    )

moved : (i : Image) (m : ℕ) (p : List Cell) (f : Careful) (h : Heap) → InForm i → IsSound i → HeapFits i m p h → Placed i p f [] → Both i m p f.code (move i m f h) (plain.move i m (plain_frame f) (map held_word h))
moved i m p f h form ok hp w =
    let r = ready i p f ok w in
    let Ok : Act → Did → Type 0 = Both i m p f.code in
    some_there i p Ok Stuck (slice_get i.codes f.code) (slice_get i.codes f.code) w.code w.code _ _ w.is w.is
    (some_there i p Ok Stuck (slice_get w.code.instrs f.place) (slice_get w.code.instrs f.place) r.0 r.0 _ _ r.1.at r.1.at
    (obeyed i m ok.rows p f w.code w.ks h hp r.0 r.1 (in_form i f.code f.place w.code r.0 form w.is r.1.at)))

-- the frame at work and those that wait
pub record Going (i : Image) (m : ℕ) (f : Careful) (fs : List Careful) (h : Heap) : Type 0 where
  pub plan : List Cell
  pub heap : HeapFits i m plan h
  pub active : Placed i plan f []
  pub waiting : Waiting i plan (result_at i f.code) fs

abbrev GoingOn : Image → ℕ → List Careful → Heap → Type 0
GoingOn i m [] h = ⊥
GoingOn i m (f ∷ fs) h = Going i m f fs h

abbrev NextFits : Image → ℕ → Next CarefulMachine Halt → Type 0
NextFits i m (On s) = GoingOn i m s.frames s.heap
NextFits i m (End o out) = o ≢ Stuck

-- a step fits, and is that of the machine
pub record GoesWith (i : Image) (m : ℕ) (x : Next CarefulMachine Halt) (y : Next plain.Machine Halt) : Type 0 where
  pub fits : NextFits i m x
  pub same : plain_next x ≡ y

placed_later : (i : Image) (p q : List Cell) (f : Careful) (above : List OperandKind) → Later p q → Placed i p f above → Placed i q f above
placed_later i p q f above l w = record {
  code = w.code;
  is = w.is;
  ks = w.ks;
  known = w.known;
  vars = vals_later i p q _ f.vars l w.vars;
  vals = vals_later i p q w.ks f.vals l w.vals;
}

waiting_later : (i : Image) (p q : List Cell) (r : Option OperandKind) (fs : List Careful) → Later p q → Waiting i p r fs → Waiting i q r fs
waiting_later i p q r [] l w = tt
waiting_later i p q r (f ∷ fs) l w =
    (placed_later i p q f (expected f.keeps r) l w.0, waiting_later i p q (result_at i f.code) fs l w.1)

fresh_is : (b : ℕ) (c : Code) (args : List Value) → plain_frame (fresh b c args) ≡ plain.fresh b c (words args)
fresh_is b c args =
    let zeros = map (λ b. zero_of (kind_of b)) c.locals in
    let vars : words (args ++ zeros) ≡ words args ++ replicate (length c.locals) (pos 0) = map-append word args zeros ∙ ap (λ zs. words args ++ zs) (zero_words c.locals) in
    ap (λ (vars : List ℤ). let f : plain.Frame = record { code = b; place = 0; vars = vars; vals = []; keeps = true } in f) vars

begun : (i : Image) (p : List Cell) (b : ℕ) (c : Code) (args : List Value) → IsSound i → slice_get i.codes b ≡ Some c → AreVals i p (map kind_of c.params) args → Placed i p (fresh b c args) []
begun i p b c args ok e w =
    let joined : map kind_of c.params ++ map kind_of c.locals ≡ locals_of c = sym (map-append kind_of c.params c.locals) in
    let zeros = map (λ b. zero_of (kind_of b)) c.locals in
    let are : Pairs (IsVal i p) (map kind_of c.params ++ map kind_of c.locals) (args ++ zeros) = pairs_both (IsVal i p) (map kind_of c.params) (map kind_of c.locals) args _ w.are (zero_vals i p c.locals) in
    record {
      code = c;
      is = e;
      ks = [];
      known = (ok.codes b c e).first;
      vars = record { are = subst (λ (ks : List OperandKind). Pairs (IsVal i p) ks (args ++ zeros)) joined are };
      vals = record { are = tt };
    }

-- a result comes to a frame that waits for it, or is dropped
kept : (i : Image) (p : List Cell) (f : Careful) (k : OperandKind) (v : Value) (keeps : Bool) → IsVal i p k v → Placed i p f (expected keeps (Some k)) → Placed i p (given_if keeps v f) []
kept i p f k v true h w =
    record { code = w.code; is = w.is; ks = k ∷ w.ks; known = w.known; vars = w.vars; vals = push i p k w.ks v f.vals h w.vals }
kept i p f k v false h w = record { code = w.code; is = w.is; ks = w.ks; known = w.known; vars = w.vars; vals = w.vals }

nothing : (i : Image) (p : List Cell) (f : Careful) (keeps : Bool) → Placed i p f (expected keeps None) → Placed i p f []
nothing i p f true w = w
nothing i p f false w = w

handed : (i : Image) (p : List Cell) (r : Option OperandKind) (v : Option Value) (f : Careful) → HandsBack i p r v → WaitsFor i p f r → Placed i p (given v f) []
handed i p None None f h w = nothing i p f f.keeps w
handed i p None (Some v) f h w = absurd h
handed i p (Some k) None f h w = absurd h
handed i p (Some k) (Some v) f h w = kept i p f k v f.keeps h w

given_code : (v : Option Value) (f : Careful) → (given v f).code ≡ f.code
given_code None f = refl
given_code (Some v) f = at f.keeps
  where
    at : (b : Bool) → (given_if b v f).code ≡ f.code
    at true = refl
    at false = refl

given_is : (v : Option Value) (f : Careful) → plain_frame (given v f) ≡ plain.given (option_map word v) (plain_frame f)
given_is None f = refl
given_is (Some v) f = at f.keeps
  where
    at : (b : Bool) → plain_frame (given_if b v f) ≡ plain.given_if b (word v) (plain_frame f)
    at true = refl
    at false = refl

same_code : (i : Image) (p : List Cell) (a b : ℕ) (fs : List Careful) → a ≡ b → Waiting i p (result_at i a) fs → Waiting i p (result_at i b) fs
same_code i p a b fs e w = subst (λ (b : ℕ). Waiting i p (result_at i b) fs) e w

abbrev PFS : List Careful → List plain.Frame
PFS fs = map plain_frame fs

abbrev PH : Heap → List ℤ
PH h = map held_word h

on_state : List plain.Frame → List ℤ → List ℕ → Next plain.Machine Halt
on_state fs h out = On (record { frames = fs; heap = h; output = out })

returned : (i : Image) (m : ℕ) (p : List Cell) (r : Option OperandKind) (v : Option Value) (fs : List Careful) (h : Heap) (out : List ℕ) → HandsBack i p r v → HeapFits i m p h → Waiting i p r fs → GoesWith i m (return_to (rules i m) v fs h out) (return_to (plain.rules i m) (option_map word v) (PFS fs) (PH h) out)
unfolding on_state
returned i m p r v [] h out b hp w = record { fits = λ e. cc; same = refl }
returned i m p r v (f ∷ fs) h out b hp w = record {
  fits = record { plan = p; heap = hp; active = handed i p r v f b w.0; waiting = same_code i p f.code (given v f).code fs (sym (given_code v f)) w.1 };
  same = ap (λ g. on_state (g ∷ PFS fs) (PH h) out) (given_is v f);
}

entered : (i : Image) (m : ℕ) (p : List Cell) (b : ℕ) (c : Code) (args : List Value) (o : Option Code) (f : Careful) (fs : List Careful) (h : Heap) (out : List ℕ) → IsSound i → slice_get i.codes b ≡ o → o ≡ Some c → AreVals i p (map kind_of c.params) args → WaitsFor i p f (result_kind c.result) → HeapFits i m p h → Waiting i p (result_at i f.code) fs → GoesWith i m (begin (rules i m) (option_map (λ (c : Code). fresh b c args) o) (f ∷ fs) h out) (begin (plain.rules i m) (option_map (λ (c : Code). plain.fresh b c (words args)) o) (PFS (f ∷ fs)) (PH h) out)
unfolding on_state
entered i m p b c args None f fs h out ok q e w u hp ws = absurd cc
entered i m p b c args (Some d) f fs h out ok q e w u hp ws =
    let z : c ≡ d = cc in
    let w' : AreVals i p (map kind_of d.params) args = subst (λ (c : Code). AreVals i p (map kind_of c.params) args) z w in
    let u' : WaitsFor i p f (result_kind d.result) = subst (λ (c : Code). WaitsFor i p f (result_kind c.result)) z u in
    let s : Waiting i p (result_at i b) (f ∷ fs) = subst (λ (o : Option Code). Waiting i p (code_result o) (f ∷ fs)) (sym q) (u', ws) in
    record {
      fits = record { plan = p; heap = hp; active = begun i p b d args ok q w'; waiting = s };
      same = ap (λ g. on_state (g ∷ PFS (f ∷ fs)) (PH h) out) (fresh_is b d args);
    }

if_next : (i : Image) (m : ℕ) (b c : Bool) (s t : Next CarefulMachine Halt) (s' t' : Next plain.Machine Halt) → b ≡ c → GoesWith i m s s' → GoesWith i m t t' → GoesWith i m (if b then s else t) (if c then s' else t')
if_next i m true true s t s' t' e h k = h
if_next i m true false s t s' t' e h k = absurd cc
if_next i m false true s t s' t' e h k = absurd cc
if_next i m false false s t s' t' e h k = k

done_ok : (i : Image) (m d : ℕ) (p : List Cell) (b : ℕ) (a : Act) (fs : List Careful) (out : List ℕ) → IsSound i → DoesFit i m p b a → Waiting i p (result_at i b) fs → GoesWith i m (machine_does (rules i m) d a fs out) (machine_does (plain.rules i m) d (plain_act a) (PFS fs) out)
done_ok i m d p b (Goes f h bytes) fs out ok w ws = record {
  fits = record { plan = w.0; heap = w.2; active = w.3; waiting = same_code i w.0 b f.code fs (sym w.4) (waiting_later i p w.0 (result_at i b) fs w.1 ws) };
  same = refl;
}
done_ok i m d p b (Enters g args f h) fs out ok w ws =
    if_next i m (nat_lt (length fs) d) (nat_lt (length (PFS fs)) d) _ _ _ _ (ap (λ n. nat_lt n d) (sym (length-map fs plain_frame)))
    (entered i m p g w.0 args (slice_get i.codes g) f fs h out ok refl w.1 w.2 w.3 w.4 (same_code i p b f.code fs (sym w.5) ws))
    (record { fits = λ e. cc; same = refl })
done_ok i m d p b (Leaves v h) fs out ok w ws = returned i m p (result_at i b) v fs h out w.0 w.1 ws
done_ok i m d p b Falls fs out ok w ws = absurd w
done_ok i m d p b (Faults o) fs out ok w ws = record { fits = w; same = refl }

step_ok : (i : Image) (m d : ℕ) (fs : List Careful) (h : Heap) (out : List ℕ) → InForm i → IsSound i → GoingOn i m fs h → GoesWith i m (machine_step_of (rules i m) d fs h out) (machine_step_of (plain.rules i m) d (PFS fs) (PH h) out)
step_ok i m d [] h out form ok g = absurd g
step_ok i m d (f ∷ fs) h out form ok g =
    let a = moved i m g.plan f h form ok g.heap g.active in
    let both = done_ok i m d g.plan f.code (move i m f h) fs out ok a.fits g.waiting in
    subst (λ (e : Did). GoesWith i m (machine_does (rules i m) d (move i m f h) fs out) (machine_does (plain.rules i m) d e (PFS fs) out)) a.same both

on_both : (i : Image) (m d n : ℕ) (x : Next CarefulMachine Halt) (y : Next plain.Machine Halt) → GoesWith i m x y → ((s : CarefulMachine) → GoingOn i m s.frames s.heap → GoesWith i m (after (instruct i m d) n s) (after (plain.instruct i m d) n (plain_state s))) → GoesWith i m (and_then x (after (instruct i m d) n)) (and_then y (after (plain.instruct i m d) n))
on_both i m d n (On s) y h k =
    subst (λ (y : Next plain.Machine Halt). GoesWith i m (after (instruct i m d) n s) (and_then y (after (plain.instruct i m d) n))) h.same (k s h.fits)
on_both i m d n (End o out) y h k =
    subst (λ (y : Next plain.Machine Halt). GoesWith i m (End o out) (and_then y (after (plain.instruct i m d) n))) h.same (record { fits = h.fits; same = refl })

ran : (i : Image) (m d n : ℕ) (s : CarefulMachine) → InForm i → IsSound i → GoingOn i m s.frames s.heap → GoesWith i m (after (instruct i m d) n s) (after (plain.instruct i m d) n (plain_state s))
ran i m d zero s form ok g = record { fits = g; same = refl }
ran i m d (suc n) s form ok g =
    on_both i m d n (instruct i m d s) (plain.instruct i m d (plain_state s)) (step_ok i m d s.frames s.heap s.output form ok g) (λ s g. ran i m d n s form ok g)

no_params : (i : Image) (p : List Cell) (bs : List ℕ) → nat_eq (length bs) 0 ≡ true → AreVals i p (map kind_of bs) []
no_params i p [] e = record { are = tt }
no_params i p (b ∷ bs) e = absurd (let q : suc (length bs) ≡ 0 = eqb-true (suc (length bs)) 0 e in omega arith)

boot_ok : (i : Image) (m : ℕ) (o : Option Code) → m < 4294967296 → IsSound i → slice_get i.codes i.start ≡ o → starts_well o ≡ true → GoingOn i m (first_frame i o) []
boot_ok i m None le ok q e = cc
boot_ok i m (Some c) le ok q e =
    let w = no_params i [] c.params (both_left (nat_eq (length c.params) 0) (not (is_some (result_kind c.result))) e) in
    record {
      plan = [];
      heap = record { cells = tt; plan = λ c g group a b j k d. absurd cc; small = omega arith; bound = le };
      active = begun i [] i.start c [] ok q w;
      waiting = tt;
    }

boot_is : (i : Image) (o : Option Code) → PFS (first_frame i o) ≡ plain.first_frame i o
boot_is i None = refl
boot_is i (Some c) = ap (λ f. f ∷ []) (fresh_is i.start c [])

not_stuck : (i : Image) (m : ℕ) (x : Next CarefulMachine Halt) → NextFits i m x → IsNotStuck x
not_stuck i m (On s) h = tt
not_stuck i m (End o out) h = h

pub kept_in_runs : (i : Image) → InForm i → IsValid i → (m d n : ℕ) → m < 4294967296 → KindsAreKept i m d n
kept_in_runs i form v m d n le =
    let ok = sound i v in
    let all = ran i m d n (boot i) form ok (boot_ok i m (slice_get i.codes i.start) le ok refl ok.start) in
    let start : plain_state (boot i) ≡ plain.boot i = ap (λ (fs : List plain.Frame). let s : plain.Machine = record { frames = fs; heap = []; output = [] } in s) (boot_is i (slice_get i.codes i.start)) in
    record {
      same = all.same ∙ ap (after (plain.instruct i m d) n) start;
      right = not_stuck i m (after (instruct i m d) n (boot i)) all.fits;
    }
