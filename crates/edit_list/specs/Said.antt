-- The edits that the code keeps, as edits of the grammar.
use Rattle.edit_spec.specs.Edit as said
use Rattle.edit_spec.specs.Edit.{LineEdit as LineEditSaid}
use Rattle.edit_list.specs.declared.edits.Edit.{Edit}
use Rattle.edit_list.specs.declared.edits.Edit.TheVariants.{Set, Size}
use Rattle.edit_list.specs.declared.edits.LineEdit.{LineEdit}

-- the edit that is kept
abbrev pub edit_said : Edit → said.Edit
edit_said (Set offset bytes) = said.Set offset bytes.items
edit_said (Size size) = said.Size size

-- the edit that is kept, with its line
abbrev pub line_said : LineEdit → said.LineEdit
line_said e = record { line = e.line; edit = edit_said e.edit }
