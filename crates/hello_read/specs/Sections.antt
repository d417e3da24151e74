-- The contents area of a payload, section by section.
-- Assumes nothing.
use Rattle.std.specs.Prelude.{ℕ, List, ◌++◌}
use Rattle.hello.specs.Pieces.{parameters_type, smart_mac_type, nickname_type, trees_type}
use Rattle.hello.specs.Contents.{Item}
use Rattle.hello_fill.specs.Filling.{section_words}

unfoldable pub all_words : List Item → List ℕ
all_words is = section_words parameters_type is ++ (section_words nickname_type is ++ (section_words trees_type is ++ section_words smart_mac_type is))
