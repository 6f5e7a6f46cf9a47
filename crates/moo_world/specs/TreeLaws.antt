-- The laws of chains and of rebuilding, and that each test says what its relation says.
use Rattle.std.specs.{Prelude.{◌≡◌, ◌↔◌, true, false, List, ◌∷◌, ◌++◌, Some, None, Any}, Bool.{Decides}}
use Rattle.moo_value.specs.{declared.value.ObjNo.{ObjNo}, declared.value.Value.{Value}}
use Rattle.moo_world.specs.Objects.{Name, Property, nothing, is_among}
use Rattle.moo_world.specs.World.{World, WorldObject, IsTree, Chain, LocationChain, IsUnder, HasProperty, Rebuilt, Reads, SameButSlots}
use Rattle.moo_world.specs.{World.{is_object, chain, location_chain, has_property, rebuilt, read_of}, Rights.{accepts, is_within}}

-- an object has one chain at most
abbrev pub OneChain : Type 0
OneChain = (world : World) (object : ObjNo) (first second : List ObjNo) → IsTree world → Chain world object first →
    Chain world object second → first ≡ second

-- no object is in a chain twice
abbrev pub NoneTwice : Type 0
NoneTwice = (world : World) (object other : ObjNo) (front behind : List ObjNo) → IsTree world →
    Chain world object (front ++ other ∷ behind) → is_among other behind ≡ false

-- from any of its objects on, a chain is that object's own
abbrev pub ChainSplits : Type 0
ChainSplits = (world : World) (object other : ObjNo) (front behind : List ObjNo) → IsTree world →
    Chain world object (front ++ other ∷ behind) → Chain world other (other ∷ behind)

-- the world that the definitions rebuild from links, definitions and the slots of a world is rebuilt from them
abbrev pub RebuiltExists : Type 0
RebuiltExists = (world changed : World) (parent : ObjNo) → IsTree world → IsTree changed →
    SameButSlots (rebuilt world changed parent) changed × Rebuilt world (rebuilt world changed parent) parent

-- no two worlds with the same links and definitions are rebuilt from one world
abbrev pub RebuiltIsOne : Type 0
RebuiltIsOne = (world first second : World) (parent : ObjNo) → IsTree world → IsTree first → SameButSlots first second →
    Rebuilt world first parent → Rebuilt world second parent → first ≡ second

-- ---- tests and relations

-- the list that is computed is the object and its ancestors
abbrev pub ChainIsFound : Type 0
ChainIsFound = (world : World) (object : ObjNo) (list : List ObjNo) → IsTree world → is_object world object ≡ true →
    (chain world object ≡ list) ↔ Chain world object list

-- the list that is computed is the object, its location, the location of that, and so on
abbrev pub LocationsAreFound : Type 0
LocationsAreFound = (world : World) (object : ObjNo) (list : List ObjNo) → IsTree world → is_object world object ≡ true →
    (location_chain world object ≡ list) ↔ LocationChain world object list

-- the test passes exactly if the object is the ancestor or under it
abbrev pub UnderIsTested : Type 0
UnderIsTested = (world : World) (object ancestor : ObjNo) → IsTree world → is_object world object ≡ true →
    Decides (is_among ancestor (chain world object)) (IsUnder world object ancestor)

-- the test passes exactly if the object or an ancestor of it defines the property
abbrev pub HasPropertyIsTested : Type 0
HasPropertyIsTested = (world : World) (object : ObjNo) (property : Property) → IsTree world →
    Decides (has_property world object property) (HasProperty world object property)

-- the value that is computed is the one that the object reads
abbrev pub ReadsIsFound : Type 0
ReadsIsFound = (world : World) (object : ObjNo) (name : Name) (value : Value) → IsTree world →
    (read_of world object name ≡ Some value) ↔ Reads world name object value

-- the object is the container or is in it at any depth
abbrev pub IsWithin : World → ObjNo → ObjNo → Type 0
IsWithin world object container = (list : List ObjNo) × LocationChain world object list × (is_among container list ≡ true)

-- the test passes exactly if the object is the container or in it at any depth
abbrev pub WithinIsTested : Type 0
WithinIsTested = (world : World) (object container : ObjNo) → IsTree world → is_object world object ≡ true →
    Decides (is_within world object container) (IsWithin world object container)

-- the accept list that counts for an object: its own, or if it holds none its parent's
pub data HasList (world : World) : ObjNo → List ObjNo → Type 0 where
  own : {object : ObjNo} {entry : WorldObject} {list : List ObjNo} → world.object object ≡ Some entry → entry.row.accept ≡ Some list →
      HasList world object list
  inherited : {object : ObjNo} {entry : WorldObject} {list : List ObjNo} → world.object object ≡ Some entry → entry.row.accept ≡ None →
      HasList world entry.row.parent list → HasList world object list

-- #-1 takes in anything, and an object what is on the list that counts, or has an ancestor there
pub data Accepts (world : World) (object thing : ObjNo) : Type 0 where
  anything : object ≡ nothing → Accepts world object thing
  listed : {list : List ObjNo} → HasList world object list → Any (λ ancestor. IsUnder world thing ancestor) list →
      Accepts world object thing

-- the test passes exactly if the object accepts the thing
abbrev pub AcceptsIsTested : Type 0
AcceptsIsTested = (world : World) (object thing : ObjNo) → IsTree world → is_object world thing ≡ true →
    Decides (accepts world object thing) (Accepts world object thing)
