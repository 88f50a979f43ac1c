-- The image that was made is that of the program.
use Rattle.std.proofs.Common.{◌≡◌, ◌≤◌, ◌<◌, ◌+◌, ℕ, zero, suc, List, [], ◌∷◌, ◌++◌, length, length-append, map, All, Contains, Some, slice_get, get_or, refl, sym, ap, ◌∙◌, subst, arith}
use Rattle.std.specs.Option.{option_map}
use Rattle.std.proofs.lemmas.List.{length-map}
use Rattle.std.proofs.lemmas.Option.{slice_get_within, slice_get-map, slice_get-get_or}
use Rattle.jn_reach.proofs.Eachs.{Each-at, Each-length}
use Rattle.jn_reach.proofs.Searches.{same_some}
use Rattle.jn_base.specs.declared.tree.Text.{Text}
use Rattle.jn_base.specs.declared.tree.Program.{Program}
use Rattle.jn_base.specs.declared.path.Path.{Path as ShownPath}
use Rattle.jn_base.specs.Paths.{Path, shown}
use Rattle.jn_base.specs.Spelling.{greatest_source}
use Rattle.jn_table.specs.declared.table.Table.{Table}
use Rattle.jn_table.specs.Answers.{AreRows}
use Rattle.jn_table.proofs.Maps.{in_list, list_at}
use Rattle.jn_table.proofs.Shown.{at_shown}
use Rattle.jn_names.specs.declared.members.Members.{Members}
use Rattle.jn_sem.specs.Does.{Body}
use Rattle.jn_rules.specs.Resolved.{IsResolved}
use Rattle.jn_rules.specs.Verdict.{LimitsPass}
use Rattle.jn_rule_laws.proofs.HeaderLaws.{header_forth}
use Rattle.jn_share.specs.declared.groups.Groups.{Groups}
use Rattle.jn_code.specs.declared.image.Text as image
use Rattle.jn_code.specs.declared.image.Image.{Image}
use Rattle.jn_code.specs.declared.image.Code.{Code}
use Rattle.jn_code.specs.declared.image.Shape.{Shape}
use Rattle.jn_code.specs.Form.{CodeInForm, IsFieldKind, GroupInForm, ShapeInForm, InForm}
use Rattle.jn_agree.specs.Naming.{Naming}
use Rattle.jn_agree.specs.Rows.{RowsAre, Classes, RowIs, SelectorsAre, GroupsAre, bodies_of}
use Rattle.jn_lower.specs.Lowering as lowering
use Rattle.jn_layout.specs.Asked.{AreFew, RowsAsked}
use Rattle.jn_layout.specs.RowLists.{RowsRight, FirstsListed}
use Rattle.jn_layout.specs.LawsOfRows.{IsLaidOut}
use Rattle.jn_layout.specs.Selecting.{SelectorsAsked, SelectorsOnly}
use Rattle.jn_size_laws.specs.Sizes.{total}
use Rattle.jn_size_laws.specs.Files.{shape_bytes, head_bytes, fields_of}
use Rattle.jn_layout.proofs.BodiesFound.{body_found}
use Rattle.jn_layout.proofs.Faultless.{faultless}
use Rattle.jn_layout.proofs.KindLaws.{shape_is}
use Rattle.jn_layout.proofs.PartProof.{at_class, one_number}
use Rattle.jn_layout.proofs.RowEnds.{known_long}
use Rattle.jn_place_laws.proofs.Declared.{declared}
use Rattle.jn_place_spans.specs.LawsOfImages.{RestFits}
use Rattle.jn_link.specs.declared.codes.Parts.{Parts}
use Rattle.jn_link.specs.Joined.{IsLowered, AreLowered, IsStart, AreJoined, IsImageOf}
use Rattle.jn_link.specs.Start.{text_bytes, image_bytes, sel_shape, sel_kind}
use Rattle.jn_link.specs.Codes.{IsLoweredAt, AreLoweredFrom}
use Rattle.jn_link.specs.Whole.{AreCodes, IsMade, AreNames, ImageAsked}
use Rattle.jn_link.proofs.Counts.{methods_short, few_methods, shapes_in_form, few_fields, kinds_in_form, few_bodies, few_texts, short_texts}
use Rattle.jn_link.proofs.Entries.{few_entries}
use Rattle.jn_link.proofs.Fewer.{IsFound, no_more}
use Rattle.jn_link.proofs.Granted as granted
use Rattle.jn_link.proofs.GroupLaws.{groups_are, groups_in_form, as_many}
use Rattle.jn_link.proofs.Joining.{source_short, lowered_have_shapes, joined_are_images}
use Rattle.jn_laws.proofs.CleanTexts.{texts_name_few}

-- ---- lists

lowered_at : (g : Parts) (k : ℕ) (bs : List Body) (cs : List Code) → AreLoweredFrom g k bs cs
    → (j : ℕ) (b : Body) (c : Code)
    → slice_get bs j ≡ Some b → slice_get cs j ≡ Some c → (i : ℕ) → i ≡ k + j → IsLoweredAt g i b c
lowered_at g k [] cs all j b c d e i same = absurd (cc d)
lowered_at g k (x ∷ bs) [] all j b c d e i same = absurd all
lowered_at g k (x ∷ bs) (y ∷ cs) (one, rest) zero b c d e i same =
    let body : x ≡ b = cc d in
    let code : y ≡ c = cc e in
    let at : k ≡ i = omega (arith, same) in
    subst (λ (q : ℕ). IsLoweredAt g q b c) at
    (subst (λ (z : Body). IsLoweredAt g k z c) body (subst (λ (z : Code). IsLoweredAt g k x z) code one))
lowered_at g k (x ∷ bs) (y ∷ cs) (one, rest) (suc j) b c d e i same =
    lowered_at g (suc k) bs cs rest j b c d e i (omega (arith, same))

lowered_long : (g : Parts) (k : ℕ) (bs : List Body) (cs : List Code) → AreLoweredFrom g k bs cs → length cs ≡ length bs
lowered_long g k [] [] all = refl
lowered_long g k [] (c ∷ cs) all = absurd all
lowered_long g k (b ∷ bs) [] all = absurd all
lowered_long g k (b ∷ bs) (c ∷ cs) (one, rest) = ap suc (lowered_long g (suc k) bs cs rest)

-- what stands in a list with one more behind
data Behind {A : Type 0} (xs : List A) (last : A) (j : ℕ) (x : A) : Type 0 where
  before : slice_get xs j ≡ Some x → Behind xs last j x
  behind : j ≡ length xs → last ≡ x → Behind xs last j x

behind_one : {A : Type 0} (xs : List A) (last : A) (j : ℕ) (x : A) → slice_get (xs ++ last ∷ []) j ≡ Some x
    → Behind xs last j x
behind_one [] last zero x e = behind refl (cc e)
behind_one [] last (suc j) x e = absurd (cc e)
behind_one (y ∷ xs) last zero x e = before e
behind_one (y ∷ xs) last (suc j) x e = by_rest (behind_one xs last j x e) where
  by_rest : Behind xs last j x → Behind (y ∷ xs) last (suc j) x
  by_rest (before h) = before h
  by_rest (behind h l) = behind (ap suc h) l

still_there : {A : Type 0} (xs : List A) (last : A) (j : ℕ) (x : A) → slice_get xs j ≡ Some x
    → slice_get (xs ++ last ∷ []) j ≡ Some x
still_there [] last j x e = absurd (cc e)
still_there (y ∷ xs) last zero x e = e
still_there (y ∷ xs) last (suc j) x e = still_there xs last j x e

all_at : {A : Type 0} (P : A → Type 0) (xs : List A) → ((j : ℕ) (x : A) → slice_get xs j ≡ Some x → P x) → All P xs
all_at P xs h k d l = h k (get_or xs k d) (slice_get-get_or xs k d l)

there : {A : Type 0} (xs : List A) (j : ℕ) → j < length xs → (x : A) × (slice_get xs j ≡ Some x)
there [] j l = absurd (omega (arith, l))
there (x ∷ xs) zero l = (x, refl)
there (x ∷ xs) (suc j) l = there xs j (omega (arith, l))

-- a text of the image is one of the program's
record SameText (xs : List Text) (bytes : List ℕ) : Type 0 where
  text : Text
  among : Contains xs text
  same : bytes ≡ text.bytes

text_of : (is : List image.Text) (xs : List Text) → map image_bytes is ≡ map text_bytes xs → (j : ℕ) (t : image.Text)
    → slice_get is j ≡ Some t → SameText xs t.bytes
text_of is xs e j t at =
    let bytes : slice_get (map text_bytes xs) j ≡ Some t.bytes =
    ap (λ (bs : List (List ℕ)). slice_get bs j) (sym e)
    ∙ (slice_get-map image_bytes is j ∙ ap (option_map image_bytes) at) in
    let inside = slice_get_within (map text_bytes xs) j t.bytes bytes in
    let long = length-map xs text_bytes in
    let x = there xs j (omega (arith, inside, long)) in
    let own : slice_get (map text_bytes xs) j ≡ Some x.0.bytes =
    slice_get-map text_bytes xs j ∙ ap (option_map text_bytes) x.1 in
    record {
      text = x.0;
      among = in_list xs j x.0 x.1;
      same = same_some (slice_get (map text_bytes xs) j) t.bytes x.0.bytes bytes own;
    }

module _ (g : Parts) (m : Members) (gs : Groups) (i : Image)
    (names : AreNames g.p.now g.t.now g.slots.now g.names.now)
    (made : IsMade g m gs i) (bytes : List ℕ)
    (asked : ImageAsked g.p.now bytes g.t.now m gs g.slots.now g.bodies.now)
  where
    abbrev p : Program
    p = g.p.now

    abbrev t : Table
    t = g.t.now

    short : length bytes ≤ greatest_source
    short = source_short p bytes asked.text

    sel_asked : SelectorsAsked p t g.slots.now
    sel_asked = record {
      filled = asked.parts.filled;
      slots = asked.parts.slots;
      once = granted.once p bytes asked.text asked.passes;
      of_classes = granted.of_classes p bytes asked.text asked.passes;
    }

    sels : SelectorsAre p g.names.now.methods g.names.now.fields
    sels = names.are sel_asked

    sels_only : SelectorsOnly p g.names.now.methods g.names.now.fields
    sels_only = names.only sel_asked

    abbrev rows_of : AreRows p t.known.items t.rows.items
    rows_of = asked.parts.filled.table.rows

    abbrev listed : FirstsListed p t made.layout.firsts
    listed = made.layout.listed p asked.parts.filled asked.parts.groups

    limits : LimitsPass p
    limits = asked.passes.bodies.headers.limits

    -- ---- what the numbers stand for

    abbrev n : Naming
    n = record {
      classes = rows_of.paths;
      groups = listed.0;
      methods = g.names.now.methods;
      fields = g.names.now.fields;
      bodies = bodies_of p;
    }

    one_class : (j k : ℕ) (R : Path) → slice_get n.classes j ≡ Some R → slice_get n.classes k ≡ Some R → j ≡ k
    one_class j k R a b =
        one_number p t asked.parts.filled j k R (at_class t n rows_of.shown_are j R a)
        (at_class t n rows_of.shown_are k R b)

    classes : Classes p n.classes
    classes = record {
      exact = λ R. (
        rows_of.universe R,
        λ u. let w = asked.parts.filled.whole.whole R u in
            in_list n.classes w.0.0 R
            (at_shown n.classes w.0.0 R (subst (λ (xs : List ShownPath). slice_get xs w.0.0 ≡ Some
            (shown R)) rows_of.shown_are w.1)),
      );
      in_order = rows_of.in_order;
      once = one_class;
    }

    few_classes : length n.classes ≤ 4096
    few_classes = let l = known_long t n rows_of.shown_are in omega (arith, l, t.few)

    few_groups : length n.groups ≤ length n.classes
    few_groups = no_more (λ (x y : Path). x ≡ y) (λ x y b e f. e ∙ sym f) n.groups n.classes listed.1.once found where
      found : (j : ℕ) (G : Path) → slice_get n.groups j ≡ Some G → IsFound (λ (x y : Path). x ≡ y) n.classes G
      found j G at =
          let w = (listed.1.exact G).0 (in_list n.groups j G at) in
          let c = list_at n.classes G ((classes.exact G).1 w.2.holds.other.universe) in
          record { place = c.0; thing = G; at = c.1; is = refl }

    bodies_few : length n.bodies + fields_of p ≤ 1048576
    bodies_few = few_bodies p bytes asked.text.spelled short

    methods_few : length n.methods ≤ length n.bodies
    methods_few = few_methods p n.methods n.fields sels_only sels.method_once

    fields_few : length n.fields ≤ fields_of p
    fields_few = few_fields p n.methods n.fields sels_only (granted.own_type p bytes asked.text asked.passes)
        (granted.once p bytes asked.text asked.passes) sels.field_once

    few : AreFew p n
    few = record {
      names = texts_name_few p bytes asked.text;
      groups = omega (arith, few_groups, few_classes);
      methods = omega (arith, methods_few, bodies_few);
      fields = omega (arith, fields_few, bodies_few);
      bodies = omega (arith, bodies_few);
    }

    rows_asked : RowsAsked p t m gs g.slots.now g.names.now n
    rows_asked = record {
      parts = asked.parts;
      naming = record {
        classes = rows_of.shown_are;
        groups = listed.1;
        methods = refl;
        fields = refl;
        bodies = refl;
      };
      selectors = sels;
      typed = granted.granted p bytes asked.text asked.passes;
      few = few;
    }

    right : RowsRight p n g.slots.now i.classes
    right = made.layout.rows n rows_asked

    -- ---- groups

    its_groups : GroupsAre p i n
    its_groups =
        groups_are p t m gs g.slots.now g.names.now n rows_asked i.classes right made.layout.firsts i.fields
        listed.2 made.lists.fields i.groups made.layout.groups i refl refl
        (granted.declarations p bytes asked.text asked.passes) (granted.fit p bytes asked.text asked.passes)

    field_kinds : All IsFieldKind i.fields
    field_kinds =
        subst (λ (ks : List ℕ). All IsFieldKind ks) (sym made.lists.fields)
        (kinds_in_form p n.methods n.fields sels_only (granted.own_type p bytes asked.text asked.passes))

    groups_formed : All GroupInForm i.groups
    groups_formed =
        groups_in_form p t m gs g.slots.now g.names.now n rows_asked i.classes right made.layout.firsts i.fields
        listed.2 made.lists.fields i.groups made.layout.groups limits.slots field_kinds

    groups_many : length i.groups ≡ length n.groups
    groups_many =
        as_many p t m gs g.slots.now g.names.now n rows_asked i.classes right made.layout.firsts i.fields
        listed.2 made.lists.fields i.groups made.layout.groups

    -- ---- codes

    abbrev codes : AreCodes g (record { codes = i.codes; start = i.start })
    codes = made.codes

    bodies_long : length codes.bodies ≡ length n.bodies
    bodies_long = lowered_long g 0 (bodies_of p) codes.bodies codes.lowered

    parts_are : lowering.PartsAre p t g.slots.now g.names.now n
    parts_are = record {
      filled = asked.parts.filled;
      numbered = asked.parts.slots;
      classes = rows_of.shown_are;
      methods = refl;
      fields = refl;
      selectors = sels;
      one = granted.one_reply p bytes asked.text asked.passes;
      of_classes = granted.of_classes p bytes asked.text asked.passes;
      least = granted.least_body p bytes asked.text asked.passes;
    }

    body_code : (j : ℕ) (b : Body) (c : Code) → slice_get n.bodies j ≡ Some b → slice_get codes.bodies j ≡ Some c
        → IsLoweredAt g j b c
    body_code j b c d e = lowered_at g 0 (bodies_of p) codes.bodies codes.lowered j b c d e j (omega arith)

    lowered : (j : ℕ) (b : Body) (c : Code) → slice_get n.bodies j ≡ Some b → slice_get codes.bodies j ≡ Some c
        → IsLowered p n b c
    lowered j b c d e = record {
      at = λ k h. w.code.at n b k parts_are (record {
        method = refl;
        stands = declared p b (in_list n.bodies j b d);
        header = header_forth p b k h;
        resolved = known;
      });
      room = w.code.room;
    } where
      w : IsLoweredAt g j b c
      w = body_code j b c d e

      known : IsResolved p b w.known
      known =
          let x = Each-at (IsResolved p) asked.resolved j b d in
          subst (IsResolved p b) (same_some (slice_get g.bodies.now j) x.0 w.known x.1 w.at) x.2

    body_of : (j : ℕ) (c : Code) → slice_get codes.bodies j ≡ Some c → (b : Body) × (slice_get n.bodies j ≡ Some b)
    body_of j c e = there n.bodies j (let l = slice_get_within codes.bodies j c e in omega (arith, l, bodies_long))

    good_code : (j : ℕ) (c : Code) → slice_get codes.bodies j ≡ Some c → CodeInForm c
    good_code j c e = let b = body_of j c e in (body_code j b.0 c b.1 e).code.in_form

    are_lowered : AreLowered p n codes.bodies
    are_lowered = record {
      numbered = refl;
      many = omega (arith, bodies_long);
      each = lowered;
      few = λ j c e. (good_code j c e).locals_count;
    }

    in_codes : (j : ℕ) (c : Code) → slice_get i.codes j ≡ Some c → Behind codes.bodies codes.last j c
    in_codes j c e =
        behind_one codes.bodies codes.last j c (subst (λ (cs : List Code). slice_get cs j ≡ Some c) codes.are e)

    to_codes : (j : ℕ) (c : Code) → slice_get codes.bodies j ≡ Some c → slice_get i.codes j ≡ Some c
    to_codes j c e =
        subst (λ (cs : List Code). slice_get cs j ≡ Some c) (sym codes.are) (still_there codes.bodies codes.last j c e)

    codes_long : length i.codes ≡ suc (length n.bodies)
    codes_long =
        let all = ap (λ (cs : List Code). length cs) codes.are in
        let sum = length-append codes.bodies (codes.last ∷ []) in
        omega (arith, all, sum, bodies_long)

    -- the code of a body is before the start's
    own_code : (j : ℕ) (b : Body) (c : Code) → slice_get n.bodies j ≡ Some b → slice_get i.codes j ≡ Some c
        → slice_get codes.bodies j ≡ Some c
    own_code j b c d e = by_place (in_codes j c e) where
      by_place : Behind codes.bodies codes.last j c → slice_get codes.bodies j ≡ Some c
      by_place (before h) = h
      by_place (behind h l) = absurd (let k = slice_get_within n.bodies j b d in omega (arith, h, k, bodies_long))

    -- ---- the rows have no fault

    laid : IsLaidOut p t m gs g.slots.now g.names.now n i
    laid = record {
      asked = rows_asked;
      rows = right;
      shapes = sym made.lists.methods;
      kinds = sym made.lists.fields;
      groups = its_groups;
      codes = record {
        code = λ k b s e h.
            let x = lowered_have_shapes p bytes asked.text asked.passes n codes.bodies are_lowered k b e in
            let same : x.shape ≡ s = shape_is p b x.shape x.has_shape ∙ sym (shape_is p b s h) in (
              x.code,
              to_codes k x.code x.at,
              x.params ∙ ap (λ (z : Shape). 3 ∷ z.params) same,
              x.result ∙ ap (λ (z : Shape). z.result) same,
            );
      };
    }

    -- ---- all of it

    rows_are : RowsAre p i n
    rows_are = record {
      classes = classes;
      firsts = listed.1;
      rows = right.rows_are;
      shapes = sym made.lists.methods;
      kinds = sym made.lists.fields;
      selectors = sels;
      codes = record { bodies = refl; start = codes.start ∙ bodies_long; all = codes_long };
      bodies = λ V x b k e is.
          let c = list_at n.bodies b (body_found p b.class x b.method is.at) in
          let w = there i.codes c.0 (let l = slice_get_within n.bodies c.0 b c.1 in omega (arith, l, codes_long)) in
          (c.0, w.0, c.1, w.1);
      slots = made.layout.slots n i rows_asked refl;
      groups = its_groups;
      texts = made.lists.texts;
    }

    methods_many : length i.methods ≡ length n.methods
    methods_many = ap (λ (xs : List Shape). length xs) made.lists.methods ∙ length-map n.methods sel_shape

    fields_many : length i.fields ≡ length n.fields
    fields_many = ap (λ (xs : List ℕ). length xs) made.lists.fields ∙ length-map n.fields sel_kind

    texts_many : length i.texts ≡ length p.texts
    texts_many =
        sym (length-map i.texts image_bytes)
        ∙ (ap (λ (xs : List (List ℕ)). length xs) made.lists.texts ∙ length-map p.texts text_bytes)

    rows_long : length i.classes ≡ length n.classes
    rows_long = Each-length (RowIs p n) right.rows_are

    in_form : InForm i
    in_form = record {
      texts_count = let l = few_texts p bytes asked.text.spelled short in omega (arith, l, texts_many);
      texts = all_at (λ (x : image.Text). length x.bytes < 4294967296) i.texts (λ j x e.
          let w = text_of i.texts p.texts made.lists.texts j x e in
          subst (λ (bs : List ℕ). length bs < 4294967296) (sym w.same)
          (short_texts p bytes asked.text.spelled short w.text w.among));
      methods_count = omega (arith, methods_many, methods_few, bodies_few);
      methods = subst (λ (xs : List Shape). All ShapeInForm xs) (sym made.lists.methods)
          (shapes_in_form p n.methods n.fields sels_only (λ b c.
          (granted.within p bytes asked.text asked.passes).limits.params b.class b.method.name.name b.method
          (declared p b c)));
      fields_count = omega (arith, fields_many, fields_few, bodies_few);
      fields = field_kinds;
      groups_count = omega (arith, groups_many, few_groups, few_classes);
      groups = groups_formed;
      classes_count = omega (arith, rows_long, few_classes);
      classes = right.in_form;
      codes_count = omega (arith, codes_long, bodies_few);
      codes = all_at CodeInForm i.codes (λ j c e. by_place j c (in_codes j c e));
    } where
      by_place : (j : ℕ) (c : Code) → Behind codes.bodies codes.last j c → CodeInForm c
      by_place j c (before h) = good_code j c h
      by_place j c (behind h l) = subst CodeInForm l codes.start_in_form

    fits : RestFits p i n
    fits = record {
      locals = λ j b c d e. (body_code j b c d (own_code j b c d e)).code.locals;
      methods = subst (λ (xs : List Shape). total (map shape_bytes xs) ≤ total (map head_bytes n.bodies))
          (sym made.lists.methods) (methods_short p n.methods n.fields sels_only sels.method_once);
      fields = omega (arith, fields_many, fields_few);
      groups = omega (arith, groups_many, few_groups, rows_long);
      entries = few_entries p t m gs g.slots.now g.names.now n rows_asked i.classes right limits.entries;
    }

    joined : AreJoined p i n
    joined = record {
      rows = rows_are;
      few = record { classes = omega (arith, few_classes); groups = omega (arith, few_groups, few_classes) };
      faultless = (faultless p t m gs g.slots.now g.names.now n i laid).all;
      bodies = λ j b c d e. lowered j b c d (own_code j b c d e);
      start = λ c e. by_place c (in_codes i.start c e);
      in_form = in_form;
      fits = fits;
    } where
      by_place : (c : Code) → Behind codes.bodies codes.last i.start c → IsStart p n c
      by_place c (before h) =
          absurd (let l = slice_get_within codes.bodies i.start c h in let s = codes.start in omega (arith, l, s))
      by_place c (behind h l) = subst (IsStart p n) l (codes.is_start n rows_of.shown_are refl)

    pub image_is : IsImageOf p i
    image_is = joined_are_images p bytes asked.text asked.passes i n joined
