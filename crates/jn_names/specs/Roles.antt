-- The roles that ask for a class.
use Rattle.std.specs.Prelude.{Bool, true, false}
use Rattle.jn_base.specs.declared.names.Role.{Role}
use Rattle.jn_base.specs.declared.names.Role.TheVariants as role

abbrev pub asks_class : Role → Bool
asks_class role.Super = false
asks_class role.Field = true
asks_class role.Value = true
asks_class role.From = true
asks_class role.To = true
asks_class role.View = true
asks_class role.New = true
