-- The refusals of one part of a script, and of one line.
use Rattle.std.specs.Prelude.{◌≡◌, ℕ, ◌⊎◌, true, List, [], ◌∷◌, ◌++◌, length, slice_get, Option, Some, None}
use Rattle.std.specs.List.{IsAmong}
use Rattle.apl_base.specs.declared.faults.Cause.TheVariants as cause
use Rattle.apl_base.specs.declared.faults.Refusal.{Refusal}
use Rattle.apl_model.specs.Refusal.{refusal, LineKind, outside, in_body, first_line, StopsAt, past_last, Heads}
use Rattle.apl_model.specs.Script.{is_glyph_token, Part, alone, defined, closes, IsHeadOf}
use Rattle.apl_model.specs.Spelling.{before_own_name}
use Rattle.apl_model.specs.declared.scripts.Header.{Header}
use Rattle.apl_model.specs.declared.tokens.Heading.{Heading}
use Rattle.apl_model.specs.declared.tokens.Line.{Line}
use Rattle.apl_model.specs.declared.tokens.Token.{Token}
use Rattle.apl_defn.specs.NameRules.{IsRepeated, IsAssigned, IsErased, IsDeclared, IsTooDeep}

-- a refusal of some of these lines or parts
abbrev pub OfSome : {A : Type 0} → (A → Refusal → Type 0) → List A → Refusal → Type 0
OfSome {A} Refuses xs r = (x : A) × IsAmong xs x × Refuses x r

-- a refusal of some of these parts, which depends on the parts before it
pub record AfterOthers (Refuses : List Part → Part → Refusal → Type 0) (ps : List Part) (r : Refusal) : Type 0 where
  pub before : List Part
  pub part : Part
  pub after : List Part
  pub split : ps ≡ before ++ (part ∷ after)
  pub refuses : Refuses before part r

-- ---- The form of definitions, and names that come twice ----

-- a ∇ alone, outside definitions
pub record IsLone (l : Line) (r : Refusal) : Type 0 where
  pub closes : closes l.tokens ≡ true
  pub is : r ≡ refusal cause.Header l.number (past_last l.tokens)

-- a first line that is no header
pub record IsNoHeader (first : Line) (r : Refusal) : Type 0 where
  pub column : ℕ
  pub stops : StopsAt first_line [] first.number first.tokens column
  pub is : r ≡ refusal cause.Header first.number column

-- in a definition, a line that begins with ∇ and has more tokens
pub record IsNested (l : Line) (r : Refusal) : Type 0 where
  pub nabla : Token
  pub next : Token
  pub after : List Token
  pub split : l.tokens ≡ nabla ∷ next ∷ after
  pub begins : is_glyph_token "∇" nabla ≡ true
  pub is : r ≡ refusal cause.Header l.number next.from

-- a heading of a function that heads one of the parts before
pub record IsSecondHeading (before : List Part) (first : Line) (r : Refusal) : Type 0 where
  pub header : Header
  pub head : IsHeadOf first header
  pub earlier : Heads before header.f
  pub own : Token
  pub place : slice_get first.tokens (length (before_own_name header)) ≡ Some own
  pub is : r ≡ refusal cause.DoubleName first.number own.from

-- a name that a definition with a header declares a second time
pub record IsDeclaredTwice (first : Line) (body : List Line) (r : Refusal) : Type 0 where
  pub header : Header
  pub head : IsHeadOf first header
  pub repeated : IsRepeated first body r

-- a definition that no line closes
pub record IsNeverClosed (first : Line) (last : Option Line) (r : Refusal) : Type 0 where
  pub nabla : Token
  pub after : List Token
  pub split : first.tokens ≡ nabla ∷ after
  pub never : last ≡ None
  pub is : r ≡ refusal cause.OpenDefinition first.number nabla.from

-- a part is refused for its form, or for a name that comes twice
abbrev pub IsFormRefusal : List Part → Part → Refusal → Type 0
IsFormRefusal before (alone l) r = IsLone l r
IsFormRefusal before (defined first body last) r =
    IsNoHeader first r ⊎ OfSome IsNested body r ⊎ IsSecondHeading before first r ⊎ IsDeclaredTwice first body r ⊎ IsNeverClosed first last r

-- ---- Names that are functions', depth and grammar ----

-- the place at which a line stops being the beginning of a lawful line of its kind
pub record IsStopped (kind : LineKind) (hs : List Heading) (l : Line) (r : Refusal) : Type 0 where
  pub column : ℕ
  pub stops : StopsAt kind hs l.number l.tokens column
  pub is : r ≡ refusal cause.Grammar l.number column

-- a line outside definitions is refused
abbrev pub IsOutsideRefusal : List Heading → Line → Refusal → Type 0
IsOutsideRefusal hs l r = IsAssigned hs l r ⊎ IsErased hs l r ⊎ IsTooDeep l r ⊎ IsStopped outside hs l r

-- a line of a body is refused
abbrev pub IsBodyRefusal : List Heading → Line → Refusal → Type 0
IsBodyRefusal hs l r = IsAssigned hs l r ⊎ IsTooDeep l r ⊎ IsStopped in_body hs l r

-- a name that a definition with a header declares, and that heads another one
pub record IsDeclaredElsewhere (hs : List Heading) (first : Line) (body : List Line) (r : Refusal) : Type 0 where
  pub header : Header
  pub head : IsHeadOf first header
  pub declared : IsDeclared hs header.f first body r

-- a part is refused for a name, its depth or its grammar, over these headings
abbrev pub IsUseRefusal : List Heading → Part → Refusal → Type 0
IsUseRefusal hs (alone l) r = IsOutsideRefusal hs l r
IsUseRefusal hs (defined first body last) r = IsDeclaredElsewhere hs first body r ⊎ OfSome (IsBodyRefusal hs) body r
