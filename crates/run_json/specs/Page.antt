-- The HTML page that contains the JSON data of a run.
use Rattle.std.specs.Prelude.{ℕ, List, [], ◌∷◌, ◌++◌, codes, ◌==◌, if◌then◌else◌}
use Rattle.std.specs.List.{flat_map}
use Rattle.run_json.specs.declared.template.TheConstants.{HEAD, TAIL}

-- a byte of JSON as it is written in the page: an escape for `<`, which JSON has only in strings, and the byte itself
-- otherwise
abbrev pub escaped_byte : ℕ → List ℕ
escaped_byte byte = if byte == 60 then codes "\\u003c" else byte ∷ []

abbrev pub escaped : List ℕ → List ℕ
escaped json = flat_map escaped_byte json

-- the script element with the data; a browser does not run a script of this type
abbrev pub data_element : List ℕ → List ℕ
data_element json = codes "<script id=\"data\" type=\"application/json\">" ++ (escaped json ++ codes "</script>")

-- the HTML page, which is the template's head, the script element with the data, and the template's tail
unfoldable pub page_bytes : List ℕ → List ℕ
page_bytes json = HEAD.now ++ (data_element json ++ TAIL.now)
