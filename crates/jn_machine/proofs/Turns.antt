-- Where calls and returns lead.
use Rattle.std.proofs.Common.{◌≡◌, refl, sym, ap, ◌∙◌, ℕ, zero, suc, ◌+◌, ◌<◌, ◌≤◌, List, [], ◌∷◌, ◌++◌, length, map, drop, replicate, ℤ, pos, Bool, true, false, Option, Some, None, slice_get, nat_lt, arith, subst}
use Rattle.std.specs.Prelude.{is_some, if◌then◌else◌}
use Rattle.std.specs.Option.{option_map}
use Rattle.std.proofs.lemmas.Bool.Decides.{nat_tests}
use Rattle.std.proofs.lemmas.List.{length-map, append-nil}
use Rattle.jn_steps.specs.Runs.{Next, On, End}
use Rattle.std.proofs.lemmas.List.Elements.{All-get_or}
use Rattle.std.proofs.lemmas.Option.{get_or_from_slice_get}
use Rattle.jn_steps.specs.Steps.{Enters, Faults, on_args}
use Rattle.jn_steps.specs.Frames.{begin, machine_does}
use Rattle.jn_code.specs.declared.image.Image.{Image}
use Rattle.jn_code.specs.declared.image.Shape.{Shape}
use Rattle.jn_code.specs.declared.image.Code.{Code}
use Rattle.jn_code.specs.declared.image.ClassRow.{ClassRow}
use Rattle.jn_code.specs.declared.instr.Instr.TheVariants as op
use Rattle.jn_code.specs.Known.{IsSound}
use Rattle.jn_code.specs.Machine as code
use Rattle.jn_code.proofs.Sound.{get_below}
use Rattle.jn_code.proofs.RowFacts.{row_is, IsEntry, code_there}
use Rattle.jn_machine.specs.declared.frame.Frame.{Frame}
use Rattle.jn_machine.specs.declared.numbers.Reference.{Reference}
use Rattle.jn_machine.specs.Acts.{frame_of}
use Rattle.jn_machine.specs.Views.{ref_of}
use Rattle.jn_machine.specs.Sizes.{Sizes, taken, drop_args, under, waits_by}
use Rattle.jn_machine.specs.Does.{machine_of}
use Rattle.jn_machine.specs.Calls.{IsWide, Roomy}

-- the arguments, and the operands below them
pub args_are : (n : ℕ) (first vals : List ℤ) (go : List ℤ → List ℤ → code.Did) → n ≤ length vals → on_args code.Stuck n first vals go ≡ go (taken n vals first) (drop_args n vals)
args_are zero first vals go h = refl
args_are (suc n) first [] go h = absurd (omega arith)
args_are (suc n) first (z ∷ vals) go h = args_are n (z ∷ first) vals go (omega arith)

pub taken_rest : (n : ℕ) (vals xs ys : List ℤ) → n ≤ length vals → taken n vals (xs ++ ys) ≡ taken n vals xs ++ ys
taken_rest zero vals xs ys h = refl
taken_rest (suc n) [] xs ys h = absurd (omega arith)
taken_rest (suc n) (z ∷ vals) xs ys h = taken_rest n vals (z ∷ xs) ys (omega arith)

pub below_args : (n : ℕ) (vals : List ℤ) (z : ℤ) → slice_get vals n ≡ Some z → drop_args n vals ≡ z ∷ drop_args (suc n) vals
below_args n [] z e = absurd cc
below_args zero (v ∷ vals) z e = let q : v ≡ z = cc in ap (λ (y : ℤ). y ∷ vals) q
below_args (suc n) (v ∷ vals) z e = below_args n vals z e

pub drop_long : (n : ℕ) (vals : List ℤ) → n ≤ length vals → length (drop_args n vals) + n ≡ length vals
drop_long zero vals h = omega arith
drop_long (suc n) [] h = absurd (omega arith)
drop_long (suc n) (z ∷ vals) h = let a = drop_long n vals (omega arith) in omega arith

pub drop_same : (n : ℕ) (vals : List ℤ) → drop n vals ≡ drop_args n vals
drop_same zero vals = refl
drop_same (suc n) [] = refl
drop_same (suc n) (z ∷ vals) = drop_same n vals

abbrev pub with_frames : List code.Frame → List ℤ → List ℕ → Next code.Machine code.Halt
with_frames fs h out = On (record { frames = fs; heap = h; output = out })

abbrev pub begun_with : ℕ → List ℤ → code.Frame
begun_with b vars = record { code = b; place = 0; vars = vars; vals = []; keeps = true }

module _ (i : Image) (s : Sizes) (f : Frame) (b n : ℕ) (z : ℤ) where
  abbrev args : List ℤ
  args = z ∷ taken n f.vals.words []

  abbrev waiting : code.Frame
  waiting = code.waits f.keeps (frame_of f) (under f.keeps z (drop_args n f.vals.words))

  -- no more frames are allowed
  pub too_deep : (g : Frame) (t : Sizes) → length s.waiting ≡ s.limit → (m : ℕ) (h : List ℤ) (out : List ℕ) → machine_does (code.rules i m) s.limit (Enters b args waiting h) (map frame_of s.waiting) out ≡ End code.Depth out
  too_deep g t e m h out =
      let l : length (map frame_of s.waiting) ≡ length s.waiting = length-map s.waiting frame_of in
      let q : nat_lt (length (map frame_of s.waiting)) s.limit ≡ false = let d : s.limit ≤ length (map frame_of s.waiting) = omega arith in grind (arith, nat_tests) in
      ap (λ (b' : Bool). if b' then begin (code.rules i m) ((code.rules i m).fresh b args) (waiting ∷ map frame_of s.waiting) h out else End code.Depth out) q

  -- the code's frame is at work
  pub begun : (c : Code) (g : Frame) (t : Sizes) → slice_get i.codes b ≡ Some c → n ≤ length f.vals.words → length s.waiting < s.limit → t.waiting ≡ waits_by n z (record f { place = f.place + 1 }) ∷ s.waiting → frame_of g ≡ begun_with b (z ∷ taken n f.vals.words (replicate (length c.locals) (pos 0))) → (m : ℕ) (h : List ℤ) (out : List ℕ) → machine_does (code.rules i m) s.limit (Enters b args waiting h) (map frame_of s.waiting) out ≡ On (machine_of g t h out)
  begun c g t e many room w begins m h out =
      let l : length (map frame_of s.waiting) ≡ length s.waiting = length-map s.waiting frame_of in
      let q : nat_lt (length (map frame_of s.waiting)) s.limit ≡ true = let d : length (map frame_of s.waiting) < s.limit = omega arith in grind (arith, nat_tests) in
      let fs = waiting ∷ map frame_of s.waiting in
      let vars : z ∷ taken n f.vals.words (replicate (length c.locals) (pos 0)) ≡ args ++ replicate (length c.locals) (pos 0) = ap (λ (ys : List ℤ). z ∷ ys) (taken_rest n f.vals.words [] (replicate (length c.locals) (pos 0)) many) in
      ap (λ (b' : Bool). if b' then begin (code.rules i m) ((code.rules i m).fresh b args) fs h out else End code.Depth out) q ∙ (ap (λ (o : Option Code). begin (code.rules i m) (option_map (λ (c : Code). code.fresh b c args) o) fs h out) e ∙ (ap (λ (vars : List ℤ). with_frames (begun_with b vars ∷ fs) h out) (sym vars) ∙ (ap (λ (g : code.Frame). with_frames (g ∷ fs) h out) (sym begins) ∙ ap (λ (ws : List Frame). with_frames (frame_of g ∷ map frame_of ws) h out) (sym w))))

pub leads : (i : Image) (m d : ℕ) (x y : code.Did) (ws : List code.Frame) (out : List ℕ) (r : Next code.Machine code.Halt) → x ≡ y → machine_does (code.rules i m) d y ws out ≡ r → machine_does (code.rules i m) d x ws out ≡ r
leads i m d x y ws out r e t = ap (λ (x : code.Did). machine_does (code.rules i m) d x ws out) e ∙ t

-- the next instruction of the same frame
pub went : (i : Image) (m d : ℕ) (f : code.Frame) (h : List ℤ) (ws : List code.Frame) (out : List ℕ) (vs us : List ℤ) → vs ≡ us → machine_does (code.rules i m) d (code.next f vs h) ws out ≡ with_frames (record f { place = f.place + 1; vals = us } ∷ ws) h out
went i m d f h ws out vs us e =
    ap (λ (all : List ℕ). with_frames (record f { place = f.place + 1; vals = vs } ∷ ws) h all) (append-nil out) ∙ ap (λ (vs : List ℤ). with_frames (record f { place = f.place + 1; vals = vs } ∷ ws) h out) e

-- calls of a selector with n arguments
module _ (i : Image) (m s : ℕ) (shape : Shape) (f : code.Frame) (h : List ℤ) (n : ℕ) (is : slice_get i.methods s ≡ Some shape) (long : n ≡ length shape.params) where
  pub call_null : (z : ℤ) → slice_get f.vals n ≡ Some z → n ≤ length f.vals → code.ref_in z ≡ None → code.obey i m (op.Call s) f h ≡ Faults code.Null
  call_null z at many e = let b = below_args n f.vals z at in rw (is, ← long, args_are, b, e)

  pub call_none : (z : ℤ) (r : code.Ref) (row : ClassRow) → slice_get f.vals n ≡ Some z → n ≤ length f.vals → code.ref_in z ≡ Some r → slice_get i.classes r.view ≡ Some row → code.code_in row s ≡ None → code.obey i m (op.Call s) f h ≡ Faults code.Null
  call_none z r row at many e c d = let b = below_args n f.vals z at in rw (is, ← long, args_are, b, e, c, d)

  pub call_some : (z : ℤ) (r : code.Ref) (row : ClassRow) (b : ℕ) → slice_get f.vals n ≡ Some z → n ≤ length f.vals → code.ref_in z ≡ Some r → slice_get i.classes r.view ≡ Some row → code.code_in row s ≡ Some b → code.obey i m (op.Call s) f h ≡ Enters b (z ∷ taken n f.vals []) (code.waits true f (under true z (drop_args n f.vals))) h
  call_some z r row b at many e c d = let w = below_args n f.vals z at in rw (is, ← long, args_are, w, e, c, d)

  module _ (k : ℤ) (below : List ℤ) (top : f.vals ≡ k ∷ below) where
    pub call_at_null : (z : ℤ) → slice_get below n ≡ Some z → n ≤ length below → code.ref_in z ≡ None → code.obey i m (op.Callat s) f h ≡ Faults code.Null
    call_at_null z at many e = let b = below_args n below z at in rw (top, is, ← long, args_are, b, e)

    pub call_at_none : (z : ℤ) (r : code.Ref) (row : ClassRow) → slice_get below n ≡ Some z → n ≤ length below → code.ref_in z ≡ Some r → slice_get i.classes (code.class_in k) ≡ Some row → code.code_in row s ≡ None → code.obey i m (op.Callat s) f h ≡ Faults code.Null
    call_at_none z r row at many e c d = let b = below_args n below z at in rw (top, is, ← long, args_are, b, e, c, d)

    pub call_at_some : (z : ℤ) (r : code.Ref) (row : ClassRow) (b : ℕ) → slice_get below n ≡ Some z → n ≤ length below → code.ref_in z ≡ Some r → slice_get i.classes (code.class_in k) ≡ Some row → code.code_in row s ≡ Some b → code.obey i m (op.Callat s) f h ≡ Enters b (z ∷ taken n below []) (code.waits true f (under true z (drop_args n below))) h
    call_at_some z r row b at many e c d = let w = below_args n below z at in rw (top, is, ← long, args_are, w, e, c, d)

    pub construct_null : n ≤ length below → code.ref_in k ≡ None → code.obey i m (op.Ctor s) f h ≡ Faults code.Null
    construct_null many e = rw (top, is, ← long, args_are, e)

    pub construct_none : (r : code.Ref) (row : ClassRow) → n ≤ length below → code.ref_in k ≡ Some r → slice_get i.classes r.view ≡ Some row → code.code_in row s ≡ None → code.obey i m (op.Ctor s) f h ≡ code.next f (k ∷ drop_args n below) h
    construct_none r row many e c d = rw (top, is, ← long, args_are, e, c, d)

    pub construct_some : (r : code.Ref) (row : ClassRow) (b : ℕ) → n ≤ length below → code.ref_in k ≡ Some r → slice_get i.classes r.view ≡ Some row → code.code_in row s ≡ Some b → code.obey i m (op.Ctor s) f h ≡ Enters b (k ∷ taken n below []) (code.waits false f (under false k (drop_args n below))) h
    construct_some r row b many e c d = rw (top, is, ← long, args_are, e, c, d)

-- the code of a class's entry, in frames with room for it
pub entry_is : (i : Image) (k s b : ℕ) (row : ClassRow) → IsSound i → slice_get i.classes k ≡ Some row → code.code_in row s ≡ Some b → IsEntry i s b
entry_is i k s b row ok is e = code_there i k row s b (row_is i k row (ok.rows k row is)) e

pub entry_there : (i : Image) (s b : ℕ) → IsEntry i s b → b < length i.codes
entry_there i s b e = get_below i.codes b e.code e.is

pub entry_fits : (i : Image) (t : Sizes) (s b : ℕ) (shape : Shape) → Roomy i t → slice_get i.methods s ≡ Some shape → IsEntry i s b → (c : Code) → slice_get i.codes b ≡ Some c → length shape.params + length c.locals + 1 ≤ t.wide
entry_fits i t s b shape room is e c at =
    let q : e.code ≡ c = let a = e.is in cc in
    let w : e.shape ≡ shape = let a = e.selector in cc in
    let l : length e.code.params ≡ suc (length e.shape.params) = ap length e.params in
    let l' : length c.params ≡ suc (length shape.params) = subst (λ (c : Code). length c.params ≡ suc (length shape.params)) q (subst (λ (x : Shape). length e.code.params ≡ suc (length x.params)) w l) in
    let below = get_below i.codes b c at in
    let f : IsWide t.wide c = subst (IsWide t.wide) (get_or_from_slice_get i.codes b c c at) (All-get_or (IsWide t.wide) i.codes b c below room.wide) in
    omega arith

-- what the program knows of a reference
pub none_seen : (o : Option Reference) (p : Option code.Ref) → option_map ref_of o ≡ p → is_some o ≡ false → p ≡ None
none_seen None p e q = sym e
none_seen (Some r) p e q = absurd cc

pub some_seen : (o : Option Reference) (p : Option code.Ref) → option_map ref_of o ≡ p → is_some o ≡ true → (r : code.Ref) × (p ≡ Some r)
some_seen None p e q = absurd cc
some_seen (Some r) p e q = (ref_of r, sym e)
