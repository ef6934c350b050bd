-- What an element writes: a start tag, what is in the element and an end tag, or one empty tag, and then a line feed.
use Rattle.std.specs.Prelude.{ℕ, List, [], ◌∷◌, ◌++◌, codes, decimal}
use Rattle.doc_model.specs.Texts.{escaped, text_of}
use Rattle.doc_model.specs.Trees.{leaf}

-- a space and `NAME="VALUE"`
abbrev pub attribute : List ℕ → List ℕ → List ℕ
attribute name value = 32 ∷ name ++ codes "=\"" ++ escaped value ++ 34 ∷ []

-- `</NAME>` and a line feed
abbrev pub end_tag : List ℕ → List ℕ
end_tag name = codes "</" ++ name ++ 62 ∷ 10 ∷ []

-- an element with nothing in it
abbrev pub empty_element : List ℕ → List ℕ → List ℕ
empty_element name attributes = 60 ∷ name ++ attributes ++ 47 ∷ 62 ∷ 10 ∷ []

-- an element with one or more children
abbrev pub parent_element : List ℕ → List ℕ → List ℕ → List ℕ
parent_element name attributes children = 60 ∷ name ++ attributes ++ 62 ∷ 10 ∷ children ++ end_tag name

-- an element with any number of children
abbrev pub element : List ℕ → List ℕ → List ℕ → List ℕ
element name attributes [] = empty_element name attributes
element name attributes (c ∷ cs) = parent_element name attributes (c ∷ cs)

-- an element with a text, if that isn't empty
unfoldable pub text_element : List ℕ → List ℕ → List ℕ
text_element name [] = empty_element name []
text_element name (c ∷ cs) = 60 ∷ name ++ 62 ∷ escaped (c ∷ cs) ++ end_tag name

-- an element whose text is a number
unfoldable pub number_element : List ℕ → ℕ → List ℕ
number_element name number = 60 ∷ name ++ 62 ∷ decimal number ++ end_tag name

-- an element with a text alone
unfoldable pub leaf_text : List ℕ → List ℕ → List ℕ
leaf_text name text = text_of (leaf name text)
