-- Reading from left to right, up to the first fault that is met. A reader takes its part from the front of the bytes,
-- and answers what the part says and the bytes after it, or a fault. The lines of a format are readers in their order.
use Rattle.std.specs.Prelude.{◌≡◌, ℕ, zero, suc, List, [], ◌∷◌, length, take, drop, Bool, nat_lt, if◌then◌else◌, Result}
use Rattle.std.specs.Prelude.{Ok, Err}
use Rattle.std.specs.Int.{w32, from_be_bytes}
use Rattle.hg_changeset.specs.declared.node.Node.{Node}
use Rattle.hg_marker.specs.declared.error.ReadError.{ReadError}
use Rattle.hg_marker.specs.declared.error.ReadError.TheVariants.{NoMemory, Fault}

-- Something is read, and no fault is met.
abbrev pub IsRead : {Y F : Type 0} → Result Y F → Type 0
IsRead (Ok y) = Unit {0}
IsRead (Err f) = ⊥

-- Reading meets this fault. Memory can be wanting only for what is read, so it never stands for a fault.
abbrev pub Fails : {Y F : Type 0} → ReadError F → Result Y F → Type 0
Fails NoMemory read = IsRead read
Fails (Fault f) read = read ≡ Err f

-- What a function returned that takes no memory, seen by view, is what reading gives.
abbrev pub IsReading : {X Y F : Type 0} → (X → Y) → Result X F → Result Y F → Type 0
IsReading view (Ok x) read = read ≡ Ok (view x)
IsReading view (Err f) read = read ≡ Err f

-- What a function returned, seen by view, is what reading gives, unless memory ran out.
abbrev pub Gives : {X Y F : Type 0} → (X → Y) → Result X (ReadError F) → Result Y F → Type 0
Gives view (Ok x) read = read ≡ Ok (view x)
Gives view (Err e) read = Fails e read

abbrev pub Reader : Type 0 → Type 0 → Type 0
Reader F A = List ℕ → Result (A × List ℕ) F

abbrev pub and_then : {F A B : Type 0} → Result (A × List ℕ) F → (A → Reader F B) → Result (B × List ℕ) F
and_then (Ok x) f = f x.0 x.1
and_then (Err e) f = Err e

-- one part, and then the rest by what the part says
infixl 10 ◌>>=◌
abbrev pub ◌>>=◌ : {F A B : Type 0} → Reader F A → (A → Reader F B) → Reader F B
(r >>= f) bytes = and_then (r bytes) f

-- nothing, which says x
abbrev pub says : {F A : Type 0} → A → Reader F A
says x bytes = Ok (x, bytes)

-- nothing, but a fault where the test fails
abbrev pub wants : {F : Type 0} → Bool → F → Reader F (Unit {0})
wants b fault bytes = if b then Ok (tt, bytes) else Err fault

-- nothing, with what was found
abbrev pub yields : {F A : Type 0} → Result A F → Reader F A
yields (Ok x) bytes = Ok (x, bytes)
yields (Err e) bytes = Err e

-- n bytes
abbrev pub field : {F : Type 0} → F → ℕ → Reader F (List ℕ)
field short n bytes = if nat_lt (length bytes) n then Err short else Ok (take n bytes, drop n bytes)

-- a number in four bytes, the highest first
abbrev pub number : {F : Type 0} → F → Reader F ℕ
number short bytes = if nat_lt (length bytes) 4 then Err short else Ok (from_be_bytes w32 (take 4 bytes), drop 4 bytes)

-- a number in one byte
abbrev pub byte : {F : Type 0} → F → Reader F ℕ
byte short [] = Err short
byte short (b ∷ bytes) = Ok (b, bytes)

-- a node id
abbrev pub node : {F : Type 0} → F → Reader F Node
node short bytes = if nat_lt (length bytes) 20 then Err short else Ok (record { 0 = take 20 bytes }, drop 20 bytes)

-- n node ids
unfoldable pub nodes : {F : Type 0} → F → ℕ → Reader F (List Node)
nodes short zero = says []
nodes short (suc n) = do
  first ← node short
  others ← nodes short n
  says (first ∷ others)

-- the ids that are spelled by twenty bytes each, so many of them
abbrev pub ids_in : ℕ → List ℕ → List Node
ids_in zero bytes = []
ids_in (suc n) bytes = record { 0 = take 20 bytes } ∷ ids_in n (drop 20 bytes)
