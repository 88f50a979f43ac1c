-- The next instruction of a machine that goes on, and what it finds.
use Rattle.std.proofs.Common.{◌≡◌, sym, ap, ℕ, suc, ◌+◌, ◌<◌, ◌≤◌, List, [], ◌∷◌, length, map, ℤ, Bool, Option, Some, None, slice_get, arith, subst}
use Rattle.std.specs.Prelude.{All}
use Rattle.std.proofs.lemmas.List.{append-nil}
use Rattle.std.proofs.lemmas.List.Elements.{All-get_or}
use Rattle.std.proofs.lemmas.Option.{get_or_from_slice_get}
use Rattle.jn_steps.specs.Steps.{Goes, Leaves}
use Rattle.jn_steps.specs.Frames.{machine_does}
use Rattle.jn_code.specs.declared.kind.OperandKind.{OperandKind}
use Rattle.jn_code.specs.declared.instr.Instr.{Instr}
use Rattle.jn_code.specs.declared.image.Image.{Image}
use Rattle.jn_code.specs.declared.image.Code.{Code}
use Rattle.jn_code.specs.Form.{CodeInForm, InForm}
use Rattle.jn_code.specs.Known.{IsSound}
use Rattle.jn_code.specs.Machine as code
use Rattle.jn_code.proofs.Sound.{get_below}
use Rattle.jn_code.specs.Going.{Cell, IsWord, Placed, expected, result_at, Waiting, Going}
use Rattle.jn_code.proofs.Words.{pairs_long}
use Rattle.jn_code.proofs.Frames.{HandsBack, DoesOk, Ready}
use Rattle.jn_code.proofs.Safe.{ready, moved}
use Rattle.jn_machine.specs.declared.frame.Frame.{Frame}
use Rattle.jn_machine.specs.Acts.{frame_of}
use Rattle.jn_machine.specs.Sizes.{Sizes, Sized}
use Rattle.jn_machine.specs.Calls.{IsHigh, Roomy, RoomBack}
use Rattle.jn_machine.specs.Wants.{Wants}
use Rattle.jn_machine.proofs.Needed.{wanted}
use Rattle.jn_machine.proofs.Turns.{with_frames}

pub all_at : {A : Type 0} (P : A → Type 0) (xs : List A) (k : ℕ) (x : A) → slice_get xs k ≡ Some x → All P xs → P x
all_at P xs k x e a = subst P (get_or_from_slice_get xs k x x e) (All-get_or P xs k x (get_below xs k x e) a)

pub record Fetched (i : Image) (m : ℕ) (f : Frame) (h : List ℤ) (x : Instr) : Type 0 where
  pub next : code.move i m (frame_of f) h ≡ code.obey i m x (frame_of f) h
  pub wants : Wants i x f h
  pub place : f.place + 1 < 18446744073709551616

move_is : (i : Image) (m : ℕ) (f : code.Frame) (h : List ℤ) (c : Code) (x : Instr) → slice_get i.codes f.code ≡ Some c → slice_get c.instrs f.place ≡ Some x → code.move i m f h ≡ code.obey i m x f h
move_is i m f h c x p q = rw (p, q)

module _ (i : Image) (m : ℕ) (f : Frame) (fs : List code.Frame) (h : List ℤ) (ok : IsSound i) (g : Going i m (frame_of f) fs h) where
  pub code_there : f.code < length i.codes
  code_there = get_below i.codes f.code g.active.code g.active.is

  pub place_there : (c : Code) → slice_get i.codes f.code ≡ Some c → f.place < length c.instrs
  place_there c e =
      let q : g.active.code ≡ c = let a = g.active.is in cc in
      let r = ready i g.plan (frame_of f) ok g.active in
      subst (λ (c : Code). f.place < length c.instrs) q (get_below g.active.code.instrs f.place r.0 r.1.at)

  pub fetched : (s : Sizes) (c : Code) (x : Instr) → InForm i → Roomy i s → Sized s.wide s.high f → slice_get i.codes f.code ≡ Some c → slice_get c.instrs f.place ≡ Some x → Fetched i m f h x
  fetched s c x form room sized e d =
      let p = g.plan in
      let w = g.active in
      let r = ready i p (frame_of f) ok w in
      let q : w.code ≡ c = let a = w.is in cc in
      let d' : slice_get w.code.instrs f.place ≡ Some x = subst (λ (c : Code). slice_get c.instrs f.place ≡ Some x) (sym q) d in
      let z : r.0 ≡ x = let a = r.1.at in cc in
      let r' : Ready i p (frame_of f) w.code x w.ks = subst (λ (x : Instr). Ready i p (frame_of f) w.code x w.ks) z r.1 in
      let long : length w.ks ≡ length f.vals.words = pairs_long (IsWord i p) w.ks f.vals.words w.vals.are in
      let low : length w.ks ≤ w.code.stack = (ok.codes f.code w.code w.is).low f.place w.ks w.known in
      let high : w.code.stack ≤ s.high = all_at (IsHigh s.high) i.codes f.code w.code w.is room.high in
      let limit = sized.vals in
      let short = (all_at CodeInForm i.codes f.code w.code w.is form.codes).count in
      let below = get_below w.code.instrs f.place x d' in
      record {
        next = move_is i m (frame_of f) h c x e d;
        wants = wanted i m p ok.rows h g.heap f w.code w.ks long (omega arith) (omega arith) x r';
        place = omega arith;
      }

room_back : (i : Image) (p : List Cell) (s : Sizes) (r : Option OperandKind) (v : Option ℤ) (fs : List Frame) → IsSound i → Roomy i s → HandsBack i p r v → Waiting i p r (map frame_of fs) → RoomBack s.high v fs
room_back i p s r None fs ok room b w = tt
room_back i p s r (Some z) [] ok room b w = tt
room_back i p s None (Some z) (f ∷ fs) ok room b w = absurd b
room_back i p s (Some k) (Some z) (f ∷ fs) ok room b w =
    λ keeps.
    let u : Placed i p (frame_of f) (k ∷ []) = subst (λ (keeps : Bool). Placed i p (frame_of f) (expected keeps (Some k))) keeps w.0 in
    let low : suc (length u.ks) ≤ u.code.stack = (ok.codes f.code u.code u.is).low f.place (k ∷ u.ks) u.known in
    let high : u.code.stack ≤ s.high = all_at (IsHigh s.high) i.codes f.code u.code u.is room.high in
    let long : length u.ks ≡ length f.vals.words = pairs_long (IsWord i p) u.ks f.vals.words u.vals.are in
    omega arith

-- there is room for a result where the frame at work returns one
pub room_for : (i : Image) (m : ℕ) (f : Frame) (s : Sizes) (h : List ℤ) (v : Option ℤ) → IsSound i → Roomy i s → (g : Going i m (frame_of f) (map frame_of s.waiting) h) → code.move i m (frame_of f) h ≡ Leaves v h → RoomBack s.high v s.waiting
room_for i m f s h v ok room g e =
    let d : DoesOk i m g.plan f.code (Leaves v h) = subst (λ (x : code.Did). DoesOk i m g.plan f.code x) e (moved i m g.plan (frame_of f) h ok g.heap g.active) in
    room_back i g.plan s (result_at i f.code) v s.waiting ok room d.0 g.waiting

-- a frame that goes on and prints nothing
pub quiet : (i : Image) (m d : ℕ) (g : code.Frame) (k : List ℤ) (ws : List code.Frame) (out : List ℕ) → machine_does (code.rules i m) d (Goes g k []) ws out ≡ with_frames (g ∷ ws) k out
quiet i m d g k ws out = ap (λ (all : List ℕ). with_frames (g ∷ ws) k all) (append-nil out)
