pub mod I2cMeaning
