use Rattle.array_units.proofs.any_unit.AnyUnit.reset.Goals as goal

pub returns-in-Zero : goal.returns-in-Zero
returns-in-Zero g c = rw c.in-Zero.is c.reset.ensures

pub returns-in-One : goal.returns-in-One
returns-in-One g c = rw c.in-One.is c.reset-in-One.ensures

pub returns-in-Two : goal.returns-in-Two
returns-in-Two g c = rw c.in-Two.is c.reset-in-Two.ensures

pub returns-in-Three : goal.returns-in-Three
returns-in-Three g c = rw c.in-Three.is c.reset-in-Three.ensures

pub returns-in-Four : goal.returns-in-Four
returns-in-Four g c = rw c.in-Four.is c.reset-in-Four.ensures

pub returns-in-Five : goal.returns-in-Five
returns-in-Five g c = rw c.in-Five.is c.reset-in-Five.ensures

pub returns-in-Six : goal.returns-in-Six
returns-in-Six g c = rw c.in-Six.is c.reset-in-Six.ensures

pub returns-in-Seven : goal.returns-in-Seven
returns-in-Seven g c = rw c.in-Seven.is c.reset-in-Seven.ensures
