-- The parts of an image make the image of the program.
use Rattle.std.proofs.Common.{◌≡◌, ℕ, zero, suc, [], ◌∷◌, ◌<◌, ◌≤◌, List, length, Some, Bool, true, false, refl, ◌∙◌, subst, Contains, arith}
use Rattle.std.specs.Prelude.{slice_get, nat_lt}
use Rattle.std.proofs.lemmas.Bool.{ltb-true, ltb-false}
use Rattle.std.proofs.lemmas.Option.{slice_get_within, get_or_from_slice_get}
use Rattle.std.proofs.lemmas.List.Elements.{All-get_or}
use Rattle.jn_base.specs.declared.tree.Program.{Program}
use Rattle.jn_base.specs.Members.{MethodAt}
use Rattle.jn_base.specs.Spelling.{IsTextOf, greatest_source, too_long}
use Rattle.jn_base.specs.WithinLimits.{IsWithinLimits}
use Rattle.jn_code.specs.declared.image.Image.{Image}
use Rattle.jn_code.specs.declared.image.Code.{Code}
use Rattle.jn_code.specs.Form.{CodeInForm}
use Rattle.jn_sem.specs.Does.{Body}
use Rattle.jn_laws.specs.LawsOfWritten.{Shallow}
use Rattle.jn_laws.proofs.PlacesAside.{programs_within_limits}
use Rattle.jn_body_laws.proofs.Formed.{bodies_formed}
use Rattle.jn_rules.specs.Headers.{header_typed}
use Rattle.jn_rules.specs.Stmts.{body_with}
use Rattle.jn_rules.specs.Verdict.{TreePasses}
use Rattle.jn_rules.proofs.PlanLaws.{then_came}
use Rattle.jn_rule_laws.proofs.HeaderLaws.{header_back}
use Rattle.jn_sound.proofs.BodiesPass.{bodies_pass}
use Rattle.jn_agree.specs.Naming.{Naming}
use Rattle.jn_agree.specs.Rows.{bodies_of}
use Rattle.jn_place_laws.proofs.Declared.{declared}
use Rattle.jn_place_laws.proofs.Images.{image_agrees_so}
use Rattle.jn_place_spans.specs.LawsOfBodies.{HasRoom}
use Rattle.jn_place_spans.specs.LawsOfImages.{CodeStands, CodesStand}
use Rattle.jn_place_spans.proofs.UntypedStmts.{bodies_stand}
use Rattle.jn_place_spans.proofs.Images.{codes_valid, operands_few, files_stand}
use Rattle.jn_link.specs.Joined.{AreJoined, IsLowered, AreLowered, HasCode, LoweredHaveShapes, JoinedStand, JoinedAreImages}

contained : {A : Type 0} (xs : List A) (k : ℕ) (x : A) → slice_get xs k ≡ Some x → Contains xs x
contained xs k x e = (k, slice_get_within xs k x e, get_or_from_slice_get xs k x x e)

within_limits : (p : Program) (bytes : List ℕ) → IsTextOf p bytes → IsWithinLimits p
within_limits p bytes text = record { source = bytes; spelled = p; same = refl; is_text = text }

pub source_short : (p : Program) (bytes : List ℕ) → IsTextOf p bytes → length bytes ≤ greatest_source
source_short p bytes text = by (nat_lt greatest_source (length bytes)) refl
  where
    by : (b : Bool) → nat_lt greatest_source (length bytes) ≡ b → length bytes ≤ greatest_source
    by true e = absurd (text.not_refused _ (too_long (ltb-true greatest_source (length bytes) e)))
    by false e = omega (arith, ltb-false greatest_source (length bytes) e)

there : {A : Type 0} (xs : List A) (j : ℕ) → j < length xs → (x : A) × (slice_get xs j ≡ Some x)
there [] j l = absurd (omega (arith, l))
there (x ∷ xs) zero l = (x, refl)
there (x ∷ xs) (suc j) l = there xs j (omega (arith, l))

-- ---- each code

module _ (p : Program) (bytes : List ℕ) (text : IsTextOf p bytes) (ok : TreePasses p) where
  limits : IsWithinLimits p
  limits = within_limits p bytes text

  shallow : Shallow p
  shallow = (programs_within_limits p limits).shallow

  -- a body of the program is a declared one
  stands_in : (n : Naming) → n.bodies ≡ bodies_of p → (j : ℕ) (b : Body) → slice_get n.bodies j ≡ Some b
      → MethodAt p b.class b.method.name.name b.method
  stands_in n numbered j b e =
      declared p b (subst (λ (bs : List Body). Contains bs b) numbered (contained n.bodies j b e))

  code_stands : (n : Naming) (b : Body) (c : Code) → MethodAt p b.class b.method.name.name b.method
      → IsLowered p n b c → CodeStands p n b c
  code_stands n b c m lowered =
      let came = then_came (header_typed b) (body_with b) tt
      (bodies_pass p ok.bodies.bodies b.class b.method.name.name b.method m) in
      record {
        header = came.first;
        head = came.gave;
        accepted = came.then;
        formed = (bodies_formed p limits).formed b.class b.method.name.name b.method m;
        at = lowered.at came.first (header_back p b came.first came.gave);
      }

  shape_of_code : (n : Naming) (cs : List Code) → AreLowered p n cs → (j : ℕ) (b : Body)
      → slice_get n.bodies j ≡ Some b → HasCode p b cs j
  shape_of_code n cs all j b e =
      let within = slice_get_within n.bodies j b e in
      let many = all.many in
      let c = there cs j (omega (arith, within, many)) in
      let s = code_stands n b c.0 (stands_in n all.numbered j b e) (all.each j b c.0 e c.1) in
      let at = (bodies_stand p shallow n b s.header c.0 s.head s.accepted s.at (all.few j c.0 c.1)).at in
      record {
        code = c.0;
        at = c.1;
        shape = at.shape;
        has_shape = at.has_shape;
        params = at.params;
        result = at.result;
      }

-- ---- those of an image

module _ (p : Program) (bytes : List ℕ) (text : IsTextOf p bytes) (ok : TreePasses p) (i : Image) (n : Naming)
    (all : AreJoined p i n)
  where
    in_form : (j : ℕ) (c : Code) → slice_get i.codes j ≡ Some c → CodeInForm c
    in_form j c f =
        subst CodeInForm (get_or_from_slice_get i.codes j c c f)
        (All-get_or CodeInForm i.codes j c (slice_get_within i.codes j c f) all.in_form.codes)

    has_room : (j : ℕ) (b : Body) (c : Code) → slice_get n.bodies j ≡ Some b → slice_get i.codes j ≡ Some c
        → CodeStands p n b c → HasRoom b c
    has_room j b c e f stands =
        let room = (all.bodies j b c e f).room in
        let few = (in_form j c f).locals_count in
        let most = operands_few p bytes text (shallow p bytes text ok) i n all.rows all.in_form.methods j b c e stands
        few in
        record { few = few; some = omega (arith, room); operands = omega (arith, room, most) }

    stand : CodesStand p i n
    stand = record {
      bodies = λ j b c e f.
          let s = code_stands p bytes text ok n b c (stands_in p bytes text ok n all.rows.codes.bodies j b e)
          (all.bodies j b c e f) in
          (s, has_room j b c e f s);
      start = λ c f. let s = all.start c f in (s.at, s.room);
    }

-- ---- the image

pub lowered_have_shapes : LoweredHaveShapes
lowered_have_shapes = shape_of_code

pub joined_stand : JoinedStand
joined_stand = stand

pub joined_are_images : JoinedAreImages
joined_are_images p bytes text ok i n all =
    let codes = stand p bytes text ok i n all in
    let deep = shallow p bytes text ok in
    let last = there i.codes i.start
    (let many = all.rows.codes.all in let at = all.rows.codes.start in omega (arith, many, at)) in
    let start = all.start last.0 last.1 in
    record {
      rows = record { naming = n; are = all.rows };
      in_form = all.in_form;
      valid = record { none = all.faultless ∙ codes_valid p deep i n all.rows codes };
      agrees = image_agrees_so p (within_limits p bytes text) ok i n all.rows all.few
          (λ j b c e f k h. (all.bodies j b c e f).at k h) last.0 last.1 start.at start.void;
      within =
          files_stand p bytes text.spelled (source_short p bytes text) deep i n all.rows all.in_form codes all.fits;
    }
