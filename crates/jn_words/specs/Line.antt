-- The line that tells a refusal.
use Rattle.std.specs.Prelude.{ℕ, false, List, [], ◌++◌, Option, Some, None, codes, decimal}
use Rattle.jn_base.specs.declared.tree.Text.{Text}
use Rattle.jn_base.specs.declared.tree.Name.{Name}
use Rattle.jn_base.specs.declared.tree.Place.{Place}
use Rattle.jn_base.specs.declared.tree.Program.{Program}
use Rattle.jn_base.specs.declared.path.Path.{Path}
use Rattle.jn_base.specs.declared.refusal.Refusal.{Refusal}
use Rattle.jn_base.specs.declared.refusal.Rule.{Rule}
use Rattle.jn_base.specs.declared.refusal.Rule.TheVariants as rule
use Rattle.jn_base.specs.declared.refusal.Limit.{Limit}
use Rattle.jn_base.specs.Limits.{limit_word}
use Rattle.jn_base.specs.NameTexts.{name_text, dotted}

-- The rule's number and its name.
abbrev pub rule_text : Rule → List ℕ
rule_text rule.E01 = codes "E01 Syntax"
rule_text rule.E02 = codes "E02 TooLong"
rule_text rule.E03 = codes "E03 Utf8"
rule_text rule.E04 = codes "E04 Limit"
rule_text rule.E05 = codes "E05 Duplicate"
rule_text rule.E06 = codes "E06 Unknown"
rule_text rule.E07 = codes "E07 Kind"
rule_text rule.E08 = codes "E08 Cycle"
rule_text rule.E09 = codes "E09 Conflict"
rule_text rule.E10 = codes "E10 FieldClash"
rule_text rule.E11 = codes "E11 Override"
rule_text rule.E12 = codes "E12 NotFamily"
rule_text rule.E13 = codes "E13 TooManyClasses"
rule_text rule.E14 = codes "E14 NotPath"
rule_text rule.E15 = codes "E15 BadType"
rule_text rule.E16 = codes "E16 NoMember"
rule_text rule.E17 = codes "E17 Arity"
rule_text rule.E18 = codes "E18 Mismatch"
rule_text rule.E19 = codes "E19 Masked"
rule_text rule.E20 = codes "E20 ViewNotShared"
rule_text rule.E21 = codes "E21 SharingFails"
rule_text rule.E22 = codes "E22 NotAClass"
rule_text rule.E23 = codes "E23 NoReturn"
rule_text rule.E24 = codes "E24 FinalAssigned"
rule_text rule.E25 = codes "E25 SuperSharing"
rule_text rule.E26 = codes "E26 NoMain"
rule_text rule.E27 = codes "E27 MaskName"

-- The line and the column: 4:9
abbrev pub place_text : Place → List ℕ
place_text at = decimal at.line ++ (codes ":" ++ decimal at.column)

-- The names of the program, and none where there is no program.
abbrev pub names_of : Option Program → List Text
names_of None = []
names_of (Some p) = p.names

-- The class behind a space, where there is one.
abbrev pub class_text : List Text → Option Path → List ℕ
class_text ns None = []
class_text ns (Some c) = codes " " ++ dotted ns false c.names

-- The member behind a space, where there is one.
abbrev pub member_text : List Text → Option Name → List ℕ
member_text ns None = []
member_text ns (Some m) = codes " " ++ name_text ns m

-- The class, then the member. Where there is a limit, which E04 alone has, its word behind a space stands in their place.
abbrev pub shown_text : List Text → Option Limit → Option Path → Option Name → List ℕ
shown_text ns (Some l) class member = codes " " ++ limit_word l
shown_text ns None class member = class_text ns class ++ member_text ns member

-- The place, a colon, the rule, and what is shown, ended by a line feed.
unfoldable pub line_of : Option Program → Refusal → List ℕ
line_of p r = place_text r.at ++ (codes ": " ++ (rule_text r.rule ++ (shown_text (names_of p) r.limit r.class r.member ++ codes "\n")))
