use Rattle.array_units.proofs.any_unit.AnyUnit.move_to.Goals as goal

pub returns-in-Zero : goal.returns-in-Zero
returns-in-Zero g c = rw c.in-Zero.is c.move_to.ensures

pub returns-in-One : goal.returns-in-One
returns-in-One g c = rw c.in-One.is c.move_to-in-One.ensures

pub returns-in-Two : goal.returns-in-Two
returns-in-Two g c = rw c.in-Two.is c.move_to-in-Two.ensures

pub returns-in-Three : goal.returns-in-Three
returns-in-Three g c = rw c.in-Three.is c.move_to-in-Three.ensures

pub returns-in-Four : goal.returns-in-Four
returns-in-Four g c = rw c.in-Four.is c.move_to-in-Four.ensures

pub returns-in-Five : goal.returns-in-Five
returns-in-Five g c = rw c.in-Five.is c.move_to-in-Five.ensures

pub returns-in-Six : goal.returns-in-Six
returns-in-Six g c = rw c.in-Six.is c.move_to-in-Six.ensures

pub returns-in-Seven : goal.returns-in-Seven
returns-in-Seven g c = rw c.in-Seven.is c.move_to-in-Seven.ensures
