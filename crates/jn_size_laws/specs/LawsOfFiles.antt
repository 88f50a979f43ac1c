-- What an image of a program takes in a file.
use Rattle.std.specs.Prelude.{◌≡◌, ◌≤◌, ℕ, suc, ◌+◌, ◌*◌, List, length, map, Some, slice_get}
use Rattle.jn_reach.specs.Each.{Each}
use Rattle.jn_base.specs.declared.tree.Member.TheVariants as member
use Rattle.jn_base.specs.declared.tree.Kind.{Kind}
use Rattle.jn_base.specs.declared.tree.Program.{Program}
use Rattle.jn_base.specs.Parts.{Part}
use Rattle.jn_base.specs.Spelling.{SourceSpells, greatest_source}
use Rattle.jn_base.specs.GrammarDecl.{IsMember, IsProgram}
use Rattle.jn_code.specs.declared.image.Image.{Image}
use Rattle.jn_code.specs.declared.image.Code.{Code}
use Rattle.jn_code.specs.Form.{InForm}
use Rattle.jn_code.specs.Spells.{file_of, limit}
use Rattle.jn_sem.specs.Does.{Body}
use Rattle.jn_agree.specs.Naming.{Naming}
use Rattle.jn_agree.specs.Rows.{bodies_of, RowsAre}
use Rattle.jn_agree.specs.Places.{StartAt}
use Rattle.jn_size_laws.specs.Sizes.{total}
use Rattle.jn_size_laws.specs.LawsOfSizes.{Sized}
use Rattle.jn_size_laws.specs.Files.{shape_bytes, head_bytes, fields_of, texts_take, all_entries}

-- the body's method has the words
abbrev pub HasWords : Body → List Part → Type 0
HasWords b w = (k : Kind) × (d : ℕ) × (depth : ℕ) × IsMember k d depth w (member.Body b.method)

-- The methods of a source have words of their own, each field has one more, and so has the end.
abbrev pub MethodsApart : Type 0
MethodsApart =
    (p : Program) (w : List Part) → IsProgram w p.decls
    → (ws : List (List Part)) × Each HasWords (bodies_of p) ws
    × (suc (total (map (λ (v : List Part). length v) ws) + fields_of p) ≤ length w)

-- What is owed for the size of an image: each code is no longer than its body allows, the start's is the start's, the
-- selectors are no more than one for each method and one for each field, and the groups no more than the classes.
pub record ImageSized (p : Program) (i : Image) (n : Naming) : Type 0 where
  pub codes : (j : ℕ) (b : Body) (c : Code) → slice_get n.bodies j ≡ Some b → slice_get i.codes j ≡ Some c → Sized b c
  pub start : (c : Code) → slice_get i.codes i.start ≡ Some c → StartAt p n c
  pub methods : total (map shape_bytes i.methods) ≤ total (map head_bytes n.bodies)
  pub fields : length i.fields ≤ fields_of p
  pub groups : length i.groups ≤ length i.classes

-- Where a source has t tokens, a file of the image takes, beside the texts, at most 65 bytes for each token, 8 for each
-- entry and 512 for each class.
abbrev pub FilesFit : Type 0
FilesFit =
    (p : Program) (i : Image) (n : Naming) (w : List Part) (t : ℕ) → IsProgram w p.decls → length w ≡ suc t
    → RowsAre p i n → InForm i → ImageSized p i n
    → length (file_of i) ≤ texts_take i + (65 * t + (8 * all_entries i + 512 * length i.classes))

-- So for each source within its limit, with no more than 1,048,576 entries, the file is within its limit.
abbrev pub FilesWithin : Type 0
FilesWithin =
    (p : Program) (bytes : List ℕ) (i : Image) (n : Naming) → SourceSpells p bytes → length bytes ≤ greatest_source
    → RowsAre p i n → InForm i → ImageSized p i n → all_entries i ≤ 1048576 → length (file_of i) ≤ limit
