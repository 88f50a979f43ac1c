-- What the image of a program is made of.
use Rattle.std.specs.Prelude.{◌≡◌, ◌≤◌, ℕ, List, [], ◌∷◌, ◌++◌, length, map}
use Rattle.jn_reach.specs.Each.{Each}
use Rattle.jn_base.specs.declared.names.Resolved.{Resolved}
use Rattle.jn_base.specs.declared.tree.Program.{Program}
use Rattle.jn_base.specs.Spelling.{IsTextOf}
use Rattle.jn_table.specs.declared.table.Table.{Table}
use Rattle.jn_table.specs.Tables.{IsFilled}
use Rattle.jn_names.specs.declared.members.Members.{Members}
use Rattle.jn_rules.specs.Resolved.{IsResolved}
use Rattle.jn_rules.specs.Verdict.{TreePasses}
use Rattle.jn_share.specs.declared.groups.Groups.{Groups}
use Rattle.jn_share.specs.declared.slots.Slots.{Slots}
use Rattle.jn_share.specs.Groups.{AreGroups}
use Rattle.jn_code.specs.declared.image.Code.{Code}
use Rattle.jn_code.specs.declared.image.Image.{Image}
use Rattle.jn_code.specs.Form.{CodeInForm}
use Rattle.jn_agree.specs.declared.selectors.Selectors.{Selectors}
use Rattle.jn_agree.specs.Naming.{Naming}
use Rattle.jn_agree.specs.Rows.{SlotsAre, SelectorsAre, bodies_of}
use Rattle.jn_layout.specs.Asked.{PartsAre, RowsAsked}
use Rattle.jn_layout.specs.RowLists.{RowsRight, FirstsListed}
use Rattle.jn_layout.specs.Selecting.{SelectorsAsked, SelectorsOnly}
use Rattle.jn_link.specs.declared.codes.Parts.{Parts}
use Rattle.jn_link.specs.declared.whole.Lists.{Lists}
use Rattle.jn_link.specs.declared.whole.Layout.{Layout}
use Rattle.jn_link.specs.declared.whole.Codes.{Codes}
use Rattle.jn_link.specs.Joined.{IsStart, IsImageOf}
use Rattle.jn_link.specs.Start.{text_bytes, image_bytes, sel_shape, sel_kind, AreClassesOf}
use Rattle.jn_link.specs.Codes.{AreLoweredFrom}
use Rattle.jn_link.specs.Groups.{AreGroupsFor}

-- What is handed over: an accepted source's program with its parts, and what is known of each of its bodies.
pub record ImageAsked (p : Program) (bytes : List ℕ) (t : Table) (m : Members) (g : Groups) (s : Slots)
    (bodies : List Resolved) : Type 0 where
  pub text : IsTextOf p bytes
  pub passes : TreePasses p
  pub parts : PartsAre p t m g s
  pub resolved : Each (IsResolved p) (bodies_of p) bodies

-- the texts are the program's; the shapes and the kinds are those of the selectors
pub record IsListed (p : Program) (names : Selectors) (x : Lists) : Type 0 where
  pub texts : map image_bytes x.texts ≡ map text_bytes p.texts
  pub methods : x.methods ≡ map sel_shape names.methods
  pub fields : x.fields ≡ map sel_kind names.fields

-- the rows are the program's, and the groups are made by them
pub record IsLayout (parts : Parts) (m : Members) (g : Groups) (kinds : List ℕ) (x : Layout) : Type 0 where
  pub rows : (n : Naming) → RowsAsked parts.p.now parts.t.now m g parts.slots.now parts.names.now n
      → RowsRight parts.p.now n parts.slots.now x.classes
  pub slots : (n : Naming) (i : Image) → RowsAsked parts.p.now parts.t.now m g parts.slots.now parts.names.now n
      → i.classes ≡ x.classes → SlotsAre parts.p.now i n
  pub firsts : List ℕ
  pub listed : (p : Program) → IsFilled p parts.t.now → AreGroups p parts.t.now.known.items g
      → FirstsListed p parts.t.now firsts
  pub groups : AreGroupsFor parts.slots.now firsts kinds x.classes x.groups

-- the codes are those of the bodies, and behind them that of the start
pub record AreCodes (parts : Parts) (x : Codes) : Type 0 where
  pub bodies : List Code
  pub last : Code
  pub are : x.codes ≡ bodies ++ last ∷ []
  pub start : x.start ≡ length bodies
  pub lowered : AreLoweredFrom parts 0 (bodies_of parts.p.now) bodies
  pub is_start : (n : Naming) → AreClassesOf parts.t.now n → n.methods ≡ parts.names.now.methods
      → IsStart parts.p.now n last
  pub start_in_form : CodeInForm last

-- the image is made of these
pub record IsMade (parts : Parts) (m : Members) (g : Groups) (i : Image) : Type 0 where
  pub lists : IsListed parts.p.now parts.names.now (record { texts = i.texts; methods = i.methods; fields = i.fields })
  pub layout : IsLayout parts m g i.fields (record { classes = i.classes; groups = i.groups })
  pub codes : AreCodes parts (record { codes = i.codes; start = i.start })

-- the selectors are those of the program, and no others
pub record AreNames (p : Program) (t : Table) (s : Slots) (names : Selectors) : Type 0 where
  pub are : SelectorsAsked p t s → SelectorsAre p names.methods names.fields
  pub only : SelectorsAsked p t s → SelectorsOnly p names.methods names.fields

-- by these selectors the image is that of the program
abbrev pub IsImageBy : Program → Table → Members → Groups → Slots → Selectors → List Resolved → Image → Type 0
IsImageBy p t m g s names bodies i =
    AreNames p t s names → (bytes : List ℕ) → ImageAsked p bytes t m g s bodies → IsImageOf p i
