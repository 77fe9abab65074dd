-- What a JSON object or array under way has.
use Rattle.std.specs.Prelude.{List, map}
use Rattle.serde_json.specs.Data.{Data, Members}
use Rattle.serde_json.specs.View.{members_view, view}
use Rattle.ih_values.specs.declared.objects.Array.{Array}
use Rattle.ih_values.specs.declared.objects.Object.{Object}

-- its members, in the order of their names
abbrev pub members : Object → Members
members o = members_view o.map.entries

-- its elements in order
abbrev pub elements : Array → List Data
elements a = map view a.values.items
