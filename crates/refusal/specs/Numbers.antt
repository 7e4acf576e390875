-- The number of each refusal.
use Rattle.std.specs.Prelude.{ℕ}
use Rattle.refusal.specs.declared.Refusal.{Refusal}
use Rattle.refusal.specs.declared.Refusal.TheVariants.{MalformedLine, SensorCount, LineOutOfTurn, BadNeighbour, BadFence, OneSidedLink, TooManyLinks, TooManyTriangles, FenceNotLinked, NotOddPrime, EntryWidth, ShapeNotTaken, OutsideShape, CodeTooLarge, StoreFull, TooShort, FieldTooLarge, NoSuchSensor, FenceSensor, AlreadySo, NoFilling, NotACode}

abbrev pub number_of : Refusal → ℕ
number_of MalformedLine = 1
number_of SensorCount = 2
number_of LineOutOfTurn = 3
number_of BadNeighbour = 4
number_of BadFence = 5
number_of OneSidedLink = 6
number_of TooManyLinks = 7
number_of TooManyTriangles = 8
number_of FenceNotLinked = 9
number_of NotOddPrime = 10
number_of EntryWidth = 11
number_of ShapeNotTaken = 12
number_of OutsideShape = 13
number_of CodeTooLarge = 14
number_of StoreFull = 15
number_of TooShort = 16
number_of FieldTooLarge = 17
number_of NoSuchSensor = 18
number_of FenceSensor = 19
number_of AlreadySo = 20
number_of NoFilling = 21
number_of NotACode = 22
