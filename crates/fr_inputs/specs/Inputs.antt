-- What a command reads in a file, by the bytes that the file gives and the text that a source means.
--
-- | word                              | meaning                                                                        |
-- |-----------------------------------|--------------------------------------------------------------------------------|
-- | most_app_bytes, most_certificate_bytes, most_list_bytes, most_source_bytes, most_trace_bytes | the most bytes of each kind of file |
-- | Reading                           | what a file is read as                                                         |
-- | is_source                         | the path is that of a source: it ends in `.frc`                                |
-- | ReadsSource                       | the text of the application that the source in a file means                    |
-- | Reads                             | the text that a file is read as                                                |
use Rattle.std.specs.Prelude.{ℕ, Bool, true, false, List, codes, nat_eq}
use Rattle.std.specs.List.{ends_with}

-- the most bytes of an application, of a certificate, and of a list
abbrev pub most_app_bytes : ℕ
most_app_bytes = 1048576

abbrev pub most_certificate_bytes : ℕ
most_certificate_bytes = 16777216

abbrev pub most_list_bytes : ℕ
most_list_bytes = 1048576

-- the most bytes of a source
abbrev pub most_source_bytes : ℕ
most_source_bytes = 1048576

-- the most bytes of a trace
abbrev pub most_trace_bytes : ℕ
most_trace_bytes = 67108864

-- what a file is read as: an application, which a source may mean, a certificate, a list, a source, or a trace
pub data Reading : Type 0 where
  AsApp : Reading
  AsCertificate : Reading
  AsList : Reading
  AsSource : Reading
  AsTrace : Reading

-- the path is that of a source
abbrev pub is_source : List ℕ → Bool
is_source path = ends_with nat_eq path (codes ".frc")

-- the text of the application that the source in the file means
abbrev pub ReadsSource : (List ℕ → ℕ → List ℕ → Type 0) → (List ℕ → List ℕ → Type 0) → List ℕ → List ℕ → Type 0
ReadsSource gives means path text = (source : List ℕ) × gives path most_source_bytes source × means source text

-- the text of the application in the file, or that the source in it means
abbrev pub ReadsApp : Bool → (List ℕ → ℕ → List ℕ → Type 0) → (List ℕ → List ℕ → Type 0) → List ℕ → List ℕ → Type 0
ReadsApp true gives means path text = ReadsSource gives means path text
ReadsApp false gives means path text = gives path most_app_bytes text

-- the text that the file at this path is read as, where its bytes are given so, and a source means such a text
abbrev pub Reads : (List ℕ → ℕ → List ℕ → Type 0) → (List ℕ → List ℕ → Type 0) → Reading → List ℕ → List ℕ → Type 0
Reads gives means AsApp path text = ReadsApp (is_source path) gives means path text
Reads gives means AsCertificate path text = gives path most_certificate_bytes text
Reads gives means AsList path text = gives path most_list_bytes text
Reads gives means AsSource path text = ReadsSource gives means path text
Reads gives means AsTrace path text = gives path most_trace_bytes text
