-- The limits that a source can pass, each by its greatest number and its word.
use Rattle.std.specs.Prelude.{ℕ, List, codes}
use Rattle.jn_base.specs.declared.refusal.Limit.{Limit}
use Rattle.jn_base.specs.declared.refusal.Limit.TheVariants as limit

-- Declarations in one another; marks and prefix operators open at once; parameters of a method; locals of a body;
-- atoms of a type; different names of masks; different names; entries of the table; slots of a group.
abbrev pub greatest : Limit → ℕ
greatest limit.Declarations = 8
greatest limit.Nesting = 200
greatest limit.Parameters = 15
greatest limit.Locals = 200
greatest limit.Atoms = 8
greatest limit.Masks = 256
greatest limit.Names = 65535
greatest limit.Entries = 1_048_576
greatest limit.Slots = 250

-- Its word in the line of a refusal.
abbrev pub limit_word : Limit → List ℕ
limit_word limit.Declarations = codes "declarations"
limit_word limit.Nesting = codes "nesting"
limit_word limit.Parameters = codes "parameters"
limit_word limit.Locals = codes "locals"
limit_word limit.Atoms = codes "atoms"
limit_word limit.Masks = codes "masks"
limit_word limit.Names = codes "names"
limit_word limit.Entries = codes "entries"
limit_word limit.Slots = codes "slots"
