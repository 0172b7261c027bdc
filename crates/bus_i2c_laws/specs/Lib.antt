pub mod I2cs
