-- The two questions about a program's forms, as tests of what it mentions.
use Rattle.std.specs.Prelude.{Bool, true, false}
use Rattle.std.specs.List.{list_any}
use Rattle.jn_base.specs.declared.forms.Form.{Form}
use Rattle.jn_base.specs.declared.forms.Form.TheVariants as form
use Rattle.jn_base.specs.Forms.{Mention, Mentions, is_sharing, names_path}

abbrev pub asks_sharing : Form → Bool
asks_sharing form.Sharing = true
asks_sharing form.Path = false

abbrev pub is_form : Form → Mention → Bool
is_form form.Sharing x = is_sharing x
is_form form.Path x = names_path x

-- one of the mentions is of the form
unfoldable pub has : Form → Mentions → Bool
has f xs = list_any (is_form f) xs
